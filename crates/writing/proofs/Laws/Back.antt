-- The packet of a meaning reads back to it (`packet-reads`): row by row, each field that was laid out is the one that its row allows, with
-- its value. Assumes nothing.
use mathlib.Core.Path.{◌≡◌, refl, sym, ap, ◌∙◌, subst}
use mathlib.Core.Bool.{Bool, true, ◌&&◌}
use mathlib.Core.List.{List, [], ◌∷◌, ◌++◌, map, append_assoc}
use mathlib.Core.Option.{Option, none, some}
use Prim.Native.Nat.{ℕ, ◌+◌, ◌-◌, ◌*◌, ◌%◌, ◌^◌, ◌≤◌, ◌<◌}
use native.Mathlib.Nat.{mod-eq_of_lt}
use native.Mathlib.Omega.{arith}
use lib.ListN.{length, get_or, drop, replicate, length-append, length-drop}
use lib.Seq.{get_or-drop}
use lib.Dec.{T, leb, ltb, eqb, leb→le, ltb→lt, lt→ltb, eqb_refl}
use borrow.Author.Tests.{le-leb}
use Rattle.octets.specs.Choice.{every}
use Rattle.octets.specs.Big.{big_of, big_at}
use Rattle.octets.specs.Buffer.{padded}
use Rattle.octets.proofs.Choice.{T_true, T_and, T-and-left, T-and-right, T-or-left, T-or-right, every-replicate, every-weaker, every-both}
use Rattle.octets.proofs.Keep.{keep_all}
use Rattle.octets.proofs.Big.{length-big_of, every-big_of, big_at-drop, big_at-put}
use Rattle.sheet.specs.declared.Sheet.{Sheet}
use Rattle.sheet.specs.Value.{valid_alone}
use Rattle.sheet.specs.Judge.{visible, longest_name, user_id}
use Rattle.sheet.proofs.Laws.Entries.{user_id-short}
use Rattle.fields.specs.declared.field.Field.{Field}
use Rattle.fields.specs.Header.{first_field, word, ssrc_in, ack_asked}
use Rattle.fields.specs.Walk.{to_word, next_at, field_right, field_at, value_of, fields_from, fields_of}
use Rattle.fields.specs.Layout.{Content, laid, laid_all, id_right, ids_right, content_of}
use Rattle.fields.specs.Claims.{Headed}
use Rattle.fields.proofs.Laws.Walk.{right_end, right-inside, fields_from-right, fields_from-wrong}
use Rattle.fields.proofs.Laws.Layouts.{length-laid, laid-id, laid-len, laid-content, laid-rest, laid-right, whole_exactly}
use Rattle.kinds.specs.declared.kind.Form.{Form}
use Rattle.kinds.specs.declared.kind.Form.TheVariants.{UserId, Number, Cause, Result, MessageType, Barred}
use Rattle.kinds.specs.Kind.{Row, Kind, kind_of, numbers_of, may_lack, may_have, grants}
use Rattle.kinds.specs.Judge.{Held, absent, number_at, fits, held_in, fields_with}
use Rattle.kinds.specs.Reading.{reads, read_by, read_of}
use Rattle.packet.specs.Claims.{useful, present, AllowsAll, is_one as is_one_held}
use Rattle.packet.proofs.Laws.Allowed.{uses}
use Rattle.packet.proofs.Laws.Accepts.{accepts_exactly}
use Rattle.packet.specs.Meaning.{Value, nothing, numeral, spelt, nowhere, value_in, Meaning, meaning, number_held}
use Rattle.plan.specs.Packet.{is_name, is_number, within, holds, is_nothing, takes, takes_all, is_one, writable, octets_for, contents_for, with_header, packet_as, packet_of}
use Rattle.plan.proofs.Laws.Packets.{Written, packet_of-written}
use Rattle.writing.specs.Claims.{are_octets}
use Rattle.writing.proofs.Laws.Kinds.{KindRight, kind-right, kind-found, kind_with-kind}
use Rattle.writing.proofs.Laws.Grants.{grants-meant}
use Rattle.writing.proofs.Laws.Front.{Front, header-says, header-octets}

-- ---- what a form's values are

-- what holds of each name of which a test does
is_name-ind {ℓ} : (P : Value → Type ℓ) (q : List ℕ → Bool) → ((xs : List ℕ) → T (q xs) → P (spelt xs)) → (v : Value) → T (is_name q v) → P v
is_name-ind P q f nothing t = absurd t
is_name-ind P q f (numeral n) t = absurd t
is_name-ind P q f (spelt xs) t = f xs t
is_name-ind P q f nowhere t = absurd t

-- what holds of each number of which a test does
is_number-ind {ℓ} : (P : Value → Type ℓ) (q : ℕ → Bool) → ((n : ℕ) → T (q n) → P (numeral n)) → (v : Value) → T (is_number q v) → P v
is_number-ind P q f nothing t = absurd t
is_number-ind P q f (numeral n) t = f n t
is_number-ind P q f (spelt xs) t = absurd t
is_number-ind P q f nowhere t = absurd t

-- an octet
abbrev octet : ℕ → Bool
octet x = ltb x 256

-- at most 60 octets
record Coded (xs : List ℕ) : Type 0 where
  short : length xs ≤ 60
  bytes : T (are_octets xs)

-- a name is
coded-name : (xs : List ℕ) → T (user_id xs) → Coded xs
unfolding are_octets user_id
coded-name xs t =
    let few = leb (length xs) longest_name in
    record {
      short = user_id-short xs t;
      bytes =
          every-weaker visible octet
          (λ x u. lt→ltb x 256 (let l : x ≤ 126 = leb→le x 126 (T-and-right (leb 33 x) (leb x 126) u) in omega arith))
          xs
          (T-and-right few (every visible xs) (T-and-right (leb 1 (length xs)) (few && every visible xs) t));
    }

-- so is a number of two octets
coded-number : (n : ℕ) → Coded (big_of 2 n)
unfolding are_octets
coded-number n = record { short = rw length-big_of (omega arith); bytes = every-big_of 2 n }

-- so are a value octet and a zero octet
coded_type : (n : ℕ) → T (within 1 n) → Coded (n ∷ 0 ∷ [])
unfolding are_octets
coded_type n t = record { short = omega arith; bytes = T_and (ltb n 256) true t tt }

-- so is every value that a form holds
coded : (form : Form) (v : Value) → T (holds form v) → Coded (octets_for form v)
unfolding holds octets_for
coded UserId v t = is_name-ind (λ w. Coded (octets_for UserId w)) user_id coded-name v t
coded Number v t = coded-number (number_held v)
coded Cause v t = coded-number (number_held v)
coded Result v t = coded-number (number_held v)
coded MessageType v t = is_number-ind (λ w. Coded (octets_for MessageType w)) (within 1) coded_type v t
coded Barred v t = absurd t

-- ---- rows that take values

-- the field of a row
abbrev content_for : Row → Value → Content
content_for r v = record { id = r.id; value = octets_for r.form v }

-- what holds of no rows, and of one row more whose field is absent or there, holds of all rows with values that they take and the fields of these
module _ {ℓ} (grant : Bool) (P : List Row → List Value → List Content → Type ℓ)
    (none_left : P [] [] [])
    (lacks : (r : Row) (rows : List Row) (values : List Value) (cs : List Content) → T (may_lack grant r.need) → P rows values cs → P (r ∷ rows) (nothing ∷ values) cs)
    (has : (r : Row) (rows : List Row) (v : Value) (values : List Value) (cs : List Content) → T (may_have grant r.need) → T (holds r.form v)
    → P rows values cs → P (r ∷ rows) (v ∷ values) (content_for r v ∷ cs)) where
  -- of one row more
  takes-more : (r : Row) (rows : List Row) (v : Value) (values : List Value) → T (takes grant r v) → P rows values (contents_for rows values)
      → P (r ∷ rows) (v ∷ values) (contents_for (r ∷ rows) (v ∷ values))
  unfolding takes contents_for is_nothing
  takes-more r rows v values t rest = by v t
    where
      there : (w : Value) → T (may_have grant r.need && holds r.form w) → P (r ∷ rows) (w ∷ values) (content_for r w ∷ contents_for rows values)
      there w u =
          has r rows w values (contents_for rows values)
          (T-and-left (may_have grant r.need) (holds r.form w) u)
          (T-and-right (may_have grant r.need) (holds r.form w) u)
          rest

      by : (w : Value) → T (takes grant r w) → P (r ∷ rows) (w ∷ values) (contents_for (r ∷ rows) (w ∷ values))
      by nothing u = lacks r rows values (contents_for rows values) u rest
      by (numeral n) u = there (numeral n) u
      by (spelt xs) u = there (spelt xs) u
      by nowhere u = there nowhere u

  -- of all
  takes-ind : (rows : List Row) (values : List Value) → T (takes_all grant rows values) → P rows values (contents_for rows values)
  unfolding takes_all contents_for
  takes-ind [] [] t = none_left
  takes-ind [] (v ∷ values) t = absurd t
  takes-ind (r ∷ rows) [] t = absurd t
  takes-ind (r ∷ rows) (v ∷ values) t =
      takes-more r rows v values (T-and-left (takes grant r v) (takes_all grant rows values) t)
      (takes-ind rows values (T-and-right (takes grant r v) (takes_all grant rows values) t))

-- ---- the octets of the fields

-- fields in whole words ..
laid_all-words : (cs : List Content) → length (laid_all cs) % word ≡ 0
unfolding laid_all to_word
laid_all-words [] = refl
laid_all-words (c ∷ cs) = rw length-append (omega (arith, length-laid c, laid_all-words cs))

pub contents_words : (rows : List Row) (values : List Value) → length (laid_all (contents_for rows values)) % word ≡ 0
contents_words rows values = laid_all-words (contents_for rows values)

-- .. at most 64 octets each
pub contents-most : (grant : Bool) (rows : List Row) (values : List Value) → T (takes_all grant rows values)
    → length (laid_all (contents_for rows values)) ≤ 64 * length rows
unfolding laid_all to_word
contents-most grant =
    takes-ind grant (λ rows values cs. length (laid_all cs) ≤ 64 * length rows) (omega arith)
    (λ r rows values cs m l. omega arith)
    (λ r rows v values cs h u l. rw length-append (omega (arith, length-laid (content_for r v), (coded r.form v u).short)))

-- .. with IDs below 192
abbrev low : Row → Bool
low r = ltb r.id 192

contents_ids : (grant : Bool) (rows : List Row) (values : List Value) → T (every low rows) → T (takes_all grant rows values)
    → T (ids_right (contents_for rows values))
unfolding ids_right id_right
contents_ids grant rows values i t =
    takes-ind grant (λ rs vs cs. T (every low rs) → T (ids_right cs)) (λ k. tt)
    (λ r rs vs cs m h k. h (T-and-right (low r) (every low rs) k))
    (λ r rs v vs cs m u h k. T_and (low r) (ids_right cs) (T-and-left (low r) (every low rs) k) (h (T-and-right (low r) (every low rs) k)))
    rows values t i

-- .. all octets
laid-octets : (c : Content) → T (id_right c) → Coded c.value → T (are_octets (laid c))
unfolding laid padded id_right are_octets
laid-octets c i h =
    let xs = c.value in
    let id : c.id < 192 = ltb→lt c.id 192 i in
    let short = h.short in
    let zeros = to_word (2 + length xs) - length (c.id ∷ length xs ∷ xs) in
    every-both octet (c.id ∷ length xs ∷ xs) (replicate zeros 0)
    (T_and (octet c.id) (octet (length xs) && are_octets xs) (lt→ltb c.id 256 (omega arith))
    (T_and (octet (length xs)) (are_octets xs) (lt→ltb (length xs) 256 (omega arith)) h.bytes))
    (every-replicate octet zeros 0 tt)

pub contents-octets : (grant : Bool) (rows : List Row) (values : List Value) → T (every (λ (r : Row). ltb r.id 192) rows) → T (takes_all grant rows values)
    → T (are_octets (laid_all (contents_for rows values)))
unfolding laid_all ids_right are_octets
contents-octets grant rows values i t =
    takes-ind grant (λ rs vs cs. T (ids_right cs) → T (are_octets (laid_all cs))) (λ k. tt)
    (λ r rs vs cs m h. h)
    (λ r rs v vs cs m u h k.
    let c = content_for r v in
    every-both octet (laid c) (laid_all cs) (laid-octets c (T-and-left (id_right c) (ids_right cs) k) (coded r.form v u))
    (h (T-and-right (id_right c) (ids_right cs) k)))
    rows values t
    (contents_ids grant rows values i t)

-- ---- a field that was laid out

module _ (p : List ℕ) (at id : ℕ) (right : T (field_right p at)) (rest : List ℕ) where
  -- the field at the place
  abbrev f : Field
  f = field_at p at

  -- its value is this
  abbrev Stands : List ℕ → Type 0
  Stands xs = drop at p ≡ laid (record { id = id; value = xs }) ++ rest

  -- it has a form and means a value
  abbrev Means : Form → Value → Type 0
  Means form v = T (fits form p f) × (value_in p (held_in form p f) ≡ v)

  -- its length is that of the value
  length-is : (xs : List ℕ) → Stands xs → f.len ≡ length xs
  unfolding field_at
  length-is xs e = laid-len p at (record { id = id; value = xs }) rest e

  -- its octets are those of the value
  value-is : (xs : List ℕ) → Stands xs → value_of p f ≡ xs
  unfolding content_of
  value-is xs e = ap (λ (c : Content). c.value) (laid-content p at (record { id = id; value = xs }) rest e)

  -- a name
  name-means : (xs : List ℕ) → T (user_id xs) → Stands xs → Means UserId (spelt xs)
  unfolding fits held_in value_in value_of field_at
  name-means xs t e = (
    rw (value-is xs e) t,
    rw (le-leb (at + 2 + get_or p (at + 1) 0) (length p) (right-inside p at right).1) (ap spelt (value-is xs e)),
  )

  -- a number's two octets
  two-octets : (n : ℕ) → Stands (big_of 2 n) → f.len ≡ 2
  two-octets n e = length-is (big_of 2 n) e ∙ length-big_of 2 n

  -- they make the number
  number_is : (n : ℕ) → T (within 2 n) → Stands (big_of 2 n) → number_at p f ≡ n
  unfolding number_at field_at laid padded
  number_is n t e =
      let two = length (big_of 2 n) in
      let xs = id ∷ two ∷ big_of 2 n in
      let zeros : List ℕ = replicate (to_word (2 + two) - length xs) 0 in
      sym (big_at-drop 2 at p 2)
      ∙ ap (λ (s : List ℕ). big_at 2 s 2) (e ∙ append_assoc xs zeros rest)
      ∙ big_at-put 2 n (id ∷ two ∷ []) (zeros ++ rest)
      ∙ mod-eq_of_lt (ltb→lt n 65536 t)

  -- a value octet and a zero octet
  type-means : (n : ℕ) → T (within 1 n) → Stands (n ∷ 0 ∷ []) → Means MessageType (numeral n)
  unfolding fits held_in value_in field_at laid padded
  type-means n t e = (
    rw (length-is (n ∷ 0 ∷ []) e, sym (get_or-drop at p 3 0), e) tt,
    rw (sym (get_or-drop at p 2 0), e),
  )

  -- a field with the octets of a value that a form holds has the form and means the value
  abbrev Back : Form → Value → Type 0
  Back form v = Stands (octets_for form v) → Means form v

  laid-means : (form : Form) (v : Value) → T (holds form v) → Back form v
  unfolding holds octets_for fits held_in value_in
  laid-means UserId v t = is_name-ind (Back UserId) user_id name-means v t
  laid-means Number v t = is_number-ind (Back Number) (within 2) (λ n u e. (rw (two-octets n e) tt, ap numeral (number_is n u e))) v t
  laid-means Cause v t = is_number-ind (Back Cause) (within 2) (λ n u e. (rw (two-octets n e) tt, ap numeral (number_is n u e))) v t
  laid-means Result v t =
      is_number-ind (Back Result) (λ (n : ℕ). leb n 1)
      (λ n u e.
      let is = number_is n (lt→ltb n 65536 (let l : n ≤ 1 = leb→le n 1 u in omega arith)) e in
      (rw (is, two-octets n e) u, ap numeral is))
      v
      t
  laid-means MessageType v t = is_number-ind (Back MessageType) (within 1) type-means v t
  laid-means Barred v t = absurd t

-- ---- the fields, row by row

-- the fields from a place on are those of some values: chosen by the rows, all in use, and their values mean these
pub record FieldsMean (p : List ℕ) (grant : Bool) (rows : List Row) (values : List Value) (at : ℕ) : Type 0 where
  pub chosen : List (Option Field)
  pub held : List Held
  pub allows : AllowsAll p grant rows chosen held
  pub fields : present chosen ≡ fields_from p at
  pub used : T (every (λ (f : Field). uses f.id rows) (fields_from p at))
  pub means : map (value_in p) held ≡ values

-- an ID in use is in use with one row more
uses_more : (r : Row) (rows : List Row) (fs : List Field) → T (every (λ (f : Field). uses f.id rows) fs)
    → T (every (λ (f : Field). uses f.id (r ∷ rows)) fs)
uses_more r rows =
    every-weaker (λ (f : Field). uses f.id rows) (λ (f : Field). uses f.id (r ∷ rows)) (λ f u. T-or-right (eqb r.id f.id) (uses f.id rows) u)

module _ (p : List ℕ) (grant : Bool) where
  -- no row: the walk is at the end
  mean-none : (at : ℕ) → drop at p ≡ [] → FieldsMean p grant [] [] at
  unfolding present
  mean-none at e =
      let end = fields_from-wrong p at (right_end p at (omega (arith, rw length-drop at (ap length e)))) in
      record { chosen = []; held = []; allows = tt; fields = sym end; used = rw end tt; means = refl }

  module _ (r : Row) (rows : List Row) (values : List Value) (at : ℕ) where
    -- a row that lacks its field
    mean-lacks : T (may_lack grant r.need) → FieldsMean p grant rows values at → FieldsMean p grant (r ∷ rows) (nothing ∷ values) at
    unfolding present value_in
    mean-lacks t h =
        record {
          chosen = none ∷ h.chosen;
          held = absent ∷ h.held;
          allows = ((t, refl), h.allows);
          fields = h.fields;
          used = uses_more r rows (fields_from p at) h.used;
          means = ap (λ (vs : List Value). nothing ∷ vs) h.means;
        }

    -- one that has it
    mean-has : (v : Value) (rest : List ℕ) → T (may_have grant r.need) → T (holds r.form v) → T (id_right (content_for r v))
        → drop at p ≡ laid (content_for r v) ++ rest → FieldsMean p grant rows values (next_at p at) → FieldsMean p grant (r ∷ rows) (v ∷ values) at
    unfolding present field_at
    mean-has v rest t u i e h =
        let right = laid-right p at (content_for r v) rest e i in
        let all = fields_from-right p at right in
        let own : get_or p at 0 ≡ r.id = laid-id p at (content_for r v) rest e in
        let behind = fields_from p (next_at p at) in
        let mean = laid-means p at r.id right rest r.form v u e in
        record {
          chosen = some (field_at p at) ∷ h.chosen;
          held = held_in r.form p (field_at p at) ∷ h.held;
          allows = ((t, own, mean.0, refl), h.allows);
          fields = rw (all, h.fields);
          used =
              rw all
              (T_and (uses (get_or p at 0) (r ∷ rows)) (every (λ (f : Field). uses f.id (r ∷ rows)) behind)
              (T-or-left (eqb r.id (get_or p at 0)) (uses (get_or p at 0) rows) (rw own (eqb_refl r.id)))
              (uses_more r rows behind h.used));
          means = rw (mean.1, h.means);
        }

pub fields_mean : (p : List ℕ) (grant : Bool) (rows : List Row) (values : List Value) (at : ℕ)
    → T (every (λ (r : Row). ltb r.id 192) rows) → T (takes_all grant rows values)
    → drop at p ≡ laid_all (contents_for rows values) → FieldsMean p grant rows values at
unfolding laid_all ids_right
fields_mean p grant rows values at i t e =
    takes-ind grant
    (λ rs vs cs. (a : ℕ) → T (ids_right cs) → drop a p ≡ laid_all cs → FieldsMean p grant rs vs a)
    (λ a k q. mean-none p grant a q)
    (λ r rs vs cs m h a k q. mean-lacks p grant r rs vs a m (h a k q))
    (λ r rs v vs cs m u h a k q.
    let c = content_for r v in
    mean-has p grant r rs vs a v (laid_all cs) m u (T-and-left (id_right c) (ids_right cs) k) q
    (h (next_at p a) (T-and-right (id_right c) (ids_right cs) k) (laid-rest p a c (laid_all cs) q)))
    rows values t at
    (contents_ids grant rows values i t)
    e

-- ---- the packet

module _ (s : Sheet) (v : T (valid_alone s)) (m : Meaning) (p : List ℕ) (w : Written (numbers_of s) m p) where
  -- its kind
  abbrev k : Kind
  k = w.kind

  right : KindRight k
  right = kind-right s v m.kind k w.found

  -- its fields
  abbrev contents : List Content
  contents = contents_for k.rows m.values

  -- its Result is 1
  abbrev grant : Bool
  grant = grants is_one k.rows m.values

  -- its SSRC goes into four octets
  narrow : m.ssrc < 256 ^ 4
  unfolding writable
  narrow = ltb→lt m.ssrc (256 ^ 4) (T-and-left (within 4 m.ssrc) (takes_all grant k.rows m.values) w.taken)

  -- its rows take the values
  takes_all_lem : T (takes_all grant k.rows m.values)
  unfolding writable
  takes_all_lem = T-and-right (within 4 m.ssrc) (takes_all grant k.rows m.values) w.taken

  -- it is short enough
  most : first_field + length (laid_all contents) ≤ 256
  most = omega (arith, contents-most grant k.rows m.values takes_all_lem, right.few)

  -- its header says what it was made of
  pub packet-front : Front p m.ack k.number m.ssrc k.letters (laid_all contents)
  unfolding packet_as with_header
  packet-front =
      subst (λ (q : List ℕ). Front q m.ack k.number m.ssrc k.letters (laid_all contents)) (sym w.is)
      (header-says m.ack k.number m.ssrc k.letters (laid_all contents) right.number narrow right.letters
      (contents_words k.rows m.values)
      most)

  -- it is made of octets
  packet-octets : T (are_octets p)
  unfolding packet_as with_header are_octets
  packet-octets =
      subst (λ (q : List ℕ). T (are_octets q)) (sym w.is)
      (header-octets m.ack k.number m.ssrc k.letters (laid_all contents) right.number narrow right.letters
      right.octets
      (contents-octets grant k.rows m.values right.ids takes_all_lem))

  -- it is of the kind
  pub packet-kind : kind_of (numbers_of s) p ≡ some k
  packet-kind = kind-found s v m.kind k w.found p packet-front.letters packet-front.number

  -- its fields mean the values
  pub packet-fields : FieldsMean p grant k.rows m.values first_field
  packet-fields =
      fields_mean p grant k.rows m.values first_field right.ids takes_all_lem packet-front.rest

  -- it is read
  packet-read : read_by (numbers_of s) p ≡ reads k.kind (ssrc_in p) (ack_asked p) packet-fields.held
  unfolding useful fields_of
  packet-read =
      let head : Headed p = (packet-front.size, packet-front.head) in
      let walked = (whole_exactly p head).1 (contents, contents_ids grant k.rows m.values right.ids takes_all_lem, packet-front.rest) in
      let fs = fields_from p first_field in
      let f = packet-fields in
      let same : grant ≡ grants is_one_held k.rows f.held = ap (grants is_one k.rows) (sym f.means) ∙ grants-meant p k.rows f.held in
      (accepts_exactly (numbers_of s) p k f.held head packet-kind walked).1 (
        f.chosen,
        subst (λ (g : Bool). AllowsAll p g k.rows f.chosen f.held) same f.allows,
        λ id. ap (fields_with id) (keep_all (λ (g : Field). uses g.id k.rows) fs f.used ∙ sym f.fields),
      )

  -- to the meaning
  packet-means : meaning p (read_of s p) ≡ some m
  unfolding read_of meaning
  packet-means =
      rw (T_true (valid_alone s) v, packet-read, packet-front.ssrc, packet-front.ack, packet-fields.means, kind_with-kind (numbers_of s) m.kind k w.found)

-- what is written is made of octets and reads back to the meaning
pub packet-reads : (s : Sheet) → T (valid_alone s) → (m : Meaning) (p : List ℕ) → packet_of (numbers_of s) m ≡ some p
    → T (are_octets p) × (meaning p (read_of s p) ≡ some m)
packet-reads s v m p e =
    let w = packet_of-written (numbers_of s) m p e in
    (packet-octets s v m p w, packet-means s v m p w)
