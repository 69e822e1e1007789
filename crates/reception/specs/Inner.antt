-- What the inner functions say. The public promises rest on these, and nobody need believe them: each is only a step of a proof.
-- Assumes nothing.
use Rattle.std.specs.Prelude.{ℕ, ◌&&◌, List, get_or, Result}
use Rattle.sheet.specs.declared.Refusal.{Refusal}
use Rattle.sheet.specs.declared.Sheet.{Sheet}
use Rattle.sheet.specs.Value.{valid_alone}
use Rattle.streams.specs.declared.Record.{Record}
use Rattle.streams.specs.declared.Event.{Event}
use Rattle.streams.specs.declared.stream.Rules.{Rules}
use Rattle.streams.specs.Record.{rules_of, on_sheet, same_record, legal}
use Rattle.streams.specs.Answer.{Reply}
use Rattle.streams.specs.Table.{sender_on}
use Rattle.reception.specs.Steps.{Said, gives, refuses, check, Try, try_of, said_by}

-- ---- numbers that are lent

-- what the rules look at among a sheet's numbers
abbrev pub rules_in : List ℕ → Rules
rules_in ns = record { limit = get_or ns 1 0; seats = get_or ns 10 0 }

-- ---- the checks, one after another

-- what a stream on the sheet is judged by
unfoldable pub admitted : Sheet → ℕ → Said Rules
admitted s stream = check (valid_alone s) 12 (check (on_sheet (rules_of s) stream) 9 (gives (rules_of s)))

abbrev pub admitted_said : Result Rules Refusal → Said Rules
admitted_said r = said_by (λ (q : Rules). q) r

-- what is behind checks that were passed, or the refusal
abbrev pub past : {A B : Type 0} → Said A → Said B → Said B
past (gives x) next = next
past (refuses number at) next = refuses number at

-- the own record of a stream on the sheet
abbrev pub own_seen : Rules → ℕ → Record → Said Record
own_seen q stream x = check (legal q stream x) 9 (gives x)

-- an event on a stream on the sheet
abbrev pub tried_on : Rules → Record → Event → Said Try
tried_on q x e = check (sender_on q e.what && legal q e.stream x) 9 (gives (try_of q x e))

-- what a store says on a stream on the sheet
unfoldable pub settled : Rules → Try → Record → Said Reply
settled q a x =
    let good = legal q a.stream in
    check (good x && (good a.seen && good a.wanted)) 9 (check (same_record x a.seen) 10 (gives a.reply))
