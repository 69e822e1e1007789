-- The values that the code makes from places are those that the message holds (`values-read`), and the slots that fill a kind's up to
-- three change nothing (`fault-numbered`). Assumes nothing.
use mathlib.Core.Path.{◌≡◌, refl, sym, ap, ◌∙◌, subst}
use mathlib.Core.Bool.{Bool, true, false}
use mathlib.Core.List.{List, map}
use mathlib.Core.Option.{Option, none, some, some-injective}
use Prim.Native.Nat.{ℕ, ◌+◌, ◌≤◌}
use native.Mathlib.Omega.{arith}
use lib.ListN.{get_or}
use lib.Dec.{T, eqb, leb, leb→le, eqb→eq, lit≤}
use borrow.Author.Tests.{eqb-false, ne_eqb}
use Rattle.octets.specs.Choice.{pick}
use Rattle.octets.specs.Buffer.{padded}
use Rattle.octets.proofs.Buffer.{get_or-padded}
use Rattle.octets.proofs.Choice.{T_true, false-T, T-and-left, T-and-right, pick-cases}
use Rattle.fields.specs.declared.field.Field.{Field}
use Rattle.fields.specs.Header.{ack_asked, ssrc_in}
use Rattle.fields.specs.Walk.{fields_of, whole}
use Rattle.fields.proofs.Laws.Fields.{coded, coded_says, fields_of-high}
use Rattle.kinds.specs.declared.Numbers.{Numbers}
use Rattle.kinds.specs.declared.kind.Form.{Form}
use Rattle.kinds.specs.declared.kind.Form.TheVariants.{UserId, Number, Cause, Result, MessageType}
use Rattle.kinds.specs.declared.kind.Kind.{Kind as MessageKind}
use Rattle.kinds.specs.declared.kind.Kind.TheVariants.{ReceiveRequest, ReceiveResponse, EndRequest, EndResponse, TransmissionEnd, TransmissionEndResponse, Ack}
use Rattle.kinds.specs.declared.kind.Slot.{Slot}
use Rattle.kinds.specs.Kind.{unless_granted, row, Kind, kinds, settled, slots_of}
use Rattle.kinds.specs.Judge.{Held, absent, given, number_at, fits, held_in, slots_with, grant_in, granted, filled_behind, filled_in, fault_of, held_by}
use Rattle.kinds.specs.Reading.{refused, reads, slots_in, message_of, read_as}
use Rattle.kinds.specs.Found.{kind_number, kind_numbered, no_slot, slots_by, slots_numbered, place_of, places_in}
use Rattle.kinds.specs.Inner.{number_from, name_from, indicator_from, result_from, cause_from, values_from}
use Rattle.kinds.proofs.Laws.Kinds.{kind_numbered-some, kind_numbered-kind}
use Rattle.kinds.proofs.Laws.Sound.{filled, Sound, AllSound, fault-sound}
use Rattle.kinds.proofs.Laws.Unused.{Apart, fault_of-padded, places_in-padded}

-- ---- values by places

-- a slot that must be filled
abbrev must : ℕ → Form → Slot
must id form = record { id = id; form = form; must = true }

-- a slot that need not be
abbrev may : ℕ → Form → Slot
may id form = record { id = id; form = form; must = false }

-- a number that is 0 or 1
zero-or-one : (m : ℕ) → m ≤ 1 → pick (eqb m 1) 1 0 ≡ m
zero-or-one m h =
    pick-cases (λ r. r ≡ m) (eqb m 1) 1 0 (λ t. sym (eqb→eq m 1 t)) (λ e. omega (arith, eqb-false m 1 e))

module _ (p : List ℕ) where
  -- the value of a slot that must be filled, by the place of its field
  must-held : (value : ℕ → Held) (s : Slot) → s.must ≡ true
      → ((f : Field) → T (coded p f) → T (fits s.form p f) → value f.at ≡ held_in s.form p f)
      → (o : Option Field) → Sound p s o → value (place_of o) ≡ held_by p (filled s o)
  unfolding held_by
  must-held value s e h none t = absurd (false-T true (sym e ∙ t) tt)
  must-held value s e h (some f) t = h f t.0 t.1

  -- a name
  name-held : (o : Option Field) → Sound p (must 6 UserId) o → name_from p (place_of o) ≡ held_by p (filled (must 6 UserId) o)
  unfolding held_in
  name-held = must-held (name_from p) (must 6 UserId) refl (λ f h t. rw (coded_says p f h).len)

  -- the number of a Source, or of a Reject Cause that must be there
  number-held : (id : ℕ) (form : Form) → ((f : Field) → held_in form p f ≡ given (number_at p f))
      → (o : Option Field) → Sound p (must id form) o → given (number_from p (place_of o)) ≡ held_by p (filled (must id form) o)
  unfolding number_from number_at
  number-held id form e = must-held (λ a. given (number_from p a)) (must id form) refl (λ f h t. sym (e f))

  -- a message type
  type-held : (o : Option Field) → Sound p (must 12 MessageType) o → given (get_or p (place_of o + 2) 0) ≡ held_by p (filled (must 12 MessageType) o)
  unfolding held_in
  type-held = must-held (λ a. given (get_or p (a + 2) 0)) (must 12 MessageType) refl (λ f h t. refl)

  -- a Result, which is 0 or 1
  result-held : (id : ℕ) (o : Option Field) → Sound p (must id Result) o → result_from p (place_of o) ≡ held_by p (filled (must id Result) o)
  unfolding held_in number_from number_at fits
  result-held id =
      must-held (result_from p) (must id Result) refl
      (λ f h t. ap given (zero-or-one (number_at p f) (leb→le (number_at p f) 1 (T-and-right (eqb f.len 2) (leb (number_at p f) 1) t))))

  -- an Indicator, which may be absent
  indicator-held : (o : Option Field) → Sound p (may 13 Number) o → indicator_from p (place_of o) ≡ held_by p (filled (may 13 Number) o)
  unfolding held_by held_in number_from number_at
  indicator-held none t = refl
  indicator-held (some f) t = rw (ne_eqb f.at 0 (λ e. omega (arith, (coded_says p f t.0).above)))

  -- whether a Result is 1, by its place
  grant-number : (id : ℕ) (o : Option Field) → Sound p (must id Result) o → grant_in p o ≡ eqb (number_from p (place_of o)) 1
  unfolding grant_in number_from number_at fits
  grant-number id none t = absurd (false-T true t tt)
  grant-number id (some f) t = rw (T_true (eqb f.len 2) (T-and-left (eqb f.len 2) (leb (number_at p f) 1) t.1))

  -- a Reject Cause, which is refused beside Result 1 and else must be there
  cause-held : (grant : Bool) (o : Option Field) → Sound p (settled grant (row 2 Cause unless_granted)) o
      → pick grant absent (given (number_from p (place_of o))) ≡ held_by p (filled (settled grant (row 2 Cause unless_granted)) o)
  unfolding settled fits held_by
  cause-held true none t = refl
  cause-held true (some f) t = absurd t.1
  cause-held false o t = unfold held_in in number-held 2 Cause (λ f. refl) o t

  -- .. and which the Result's place tells
  verdict-held : (id : ℕ) (o r : Option Field) → Sound p (must id Result) o → Sound p (settled (grant_in p o) (row 2 Cause unless_granted)) r
      → cause_from p (place_of o) (place_of r) ≡ held_by p (filled (settled (grant_in p o) (row 2 Cause unless_granted)) r)
  verdict-held id o r t u = rw (← grant-number id o t) (cause-held (grant_in p o) r u)

  -- ---- the values of a kind

  module _ (n : Numbers) (fs : List Field) where
    -- the slots of a kind
    abbrev slots_here : Kind → List Slot
    slots_here k = slots_of (granted p n.resultid fs) k

    -- fields that fill them soundly have the values of their places
    abbrev Reads : ℕ → Kind → Type 0
    Reads kind k =
        AllSound p (filled_in (slots_here k) fs)
        → values_from kind p (places_in (slots_here k) fs) ≡ map (held_by p) (filled_in (slots_here k) fs)

    -- so they do in each kind
    values_from-held : (kind : MessageKind) (k : Kind) → kind_numbered n (kind_number kind) ≡ some k → Reads (kind_number kind) k
    unfolding kind_numbered kinds slots_of settled filled_in filled_behind places_in values_from held_in
    values_from-held ReceiveRequest k e =
        subst (Reads 1) (some-injective _ k e)
        (λ s. rw (name-held _ s.0, name-held _ s.1.0, indicator-held _ s.1.1.0))
    values_from-held ReceiveResponse k e =
        subst (Reads 2) (some-injective _ k e)
        (λ s. unfold granted slots_with in
        rw (result-held n.resultid _ s.0, verdict-held n.resultid _ _ s.0 s.1.0, indicator-held _ s.1.1.0))
    values_from-held EndRequest k e =
        subst (Reads 3) (some-injective _ k e)
        (λ s. rw (name-held _ s.0, indicator-held _ s.1.0))
    values_from-held EndResponse k e =
        subst (Reads 4) (some-injective _ k e)
        (λ s. rw (name-held _ s.0))
    values_from-held TransmissionEnd k e =
        subst (Reads 5) (some-injective _ k e)
        (λ s. rw (number-held 2 Cause (λ f. refl) _ s.0, indicator-held _ s.1.0))
    values_from-held TransmissionEndResponse k e = subst (Reads 6) (some-injective _ k e) (λ s. refl)
    values_from-held Ack k e =
        subst (Reads 7) (some-injective _ k e)
        (λ s. rw (number-held 10 Number (λ f. refl) _ s.0, type-held _ s.1.0))

-- places filled up with 0 have the same values
values_from-padded : (kind : ℕ) (p : List ℕ) (m : ℕ) (places : List ℕ) → values_from kind p (padded m 0 places) ≡ values_from kind p places
unfolding values_from
values_from-padded kind p m places = simp get_or-padded

-- ---- judging and the message joined

module _ (n : Numbers) (p : List ℕ) (kind : MessageKind) where
  -- whether the packet's Result is 1
  abbrev pub grant : Bool
  grant = granted p n.resultid (fields_of p)

  -- the slots that the code hands to judging
  abbrev pub handed : List Slot
  handed = slots_numbered n (kind_number kind) grant

  module _ (k : Kind) (numbered : kind_numbered n (kind_number kind) ≡ some k) where
    -- they are those of the kind, filled up to three
    slots_numbered-padded : handed ≡ padded 3 no_slot (slots_of grant k)
    unfolding slots_numbered
    slots_numbered-padded = rw numbered

    -- no field has the ID of those that fill up
    unused : Apart 256 (fields_of p)
    unused = fields_of-high p 256 (lit≤ tt)

    -- they find the same fault
    fault-numbered : fault_of p handed (fields_of p) ≡ fault_of p (slots_of grant k) (fields_of p)
    fault-numbered = rw slots_numbered-padded (fault_of-padded no_slot refl (fields_of p) unused p 3 (slots_of grant k))

    -- where there is none, the values by the places of their fields are what the message holds
    values-read : fault_of p (slots_of grant k) (fields_of p) ≡ none
        → values_from (kind_number kind) p (places_in handed (fields_of p)) ≡ map (held_by p) (filled_in (slots_of grant k) (fields_of p))
    values-read e =
        rw (slots_numbered-padded, places_in-padded no_slot refl (fields_of p) unused 3 (slots_of grant k), values_from-padded)
        (values_from-held p n (fields_of p) kind k numbered (fault-sound p (slots_of grant k) e))

  -- a packet of the kind whose walk is not whole: 4
  pub read_as-cut : whole p ≡ false → read_as n p (kind_numbered n (kind_number kind)) ≡ refused 4 0
  unfolding read_as
  read_as-cut e = rw ((kind_numbered-some n kind).1, e)

  module _ (right : T (whole p)) where
    -- a packet of the kind whose walk is whole reads to a message or to 5, by the fault that judging finds
    read_as-fault : read_as n p (kind_numbered n (kind_number kind))
        ≡ message_of p (kind_number kind) (slots_by grant (kind_numbered n (kind_number kind))) (fault_of p handed (fields_of p))
    unfolding read_as slots_in
    read_as-fault =
        let k = kind_numbered-some n kind in
        rw (fault-numbered k.0 k.1, k.1, T_true (whole p) right, kind_numbered-kind n kind k.0 k.1)

    -- a fault: 5
    pub read_as-faulty : (at : ℕ) → fault_of p handed (fields_of p) ≡ some at → read_as n p (kind_numbered n (kind_number kind)) ≡ refused 5 0
    read_as-faulty at e = read_as-fault ∙ (unfold message_of in rw e)

    -- none: the values by the places of their fields
    pub read_as-right : fault_of p handed (fields_of p) ≡ none
        → read_as n p (kind_numbered n (kind_number kind))
        ≡ reads (kind_number kind) (ssrc_in p) (ack_asked p) (values_from (kind_number kind) p (places_in handed (fields_of p)))
    read_as-right e =
        let k = kind_numbered-some n kind in
        let fault = fault-numbered k.0 k.1 in
        read_as-fault ∙ (unfold message_of in rw (e, k.1, values-read k.0 k.1 (sym fault ∙ e)))
