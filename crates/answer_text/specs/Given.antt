-- The event that a reader gives at a byte.
use Rattle.std.specs.Prelude.{ℕ, Bool, List, [], ◌∷◌, Option, Some, None}
use Rattle.answer_text.specs.declared.event.Event.{Event}
use Rattle.answer_text.specs.declared.event.Event.TheVariants as event
use Rattle.answer_text.specs.declared.event.AnswerEvent.{AnswerEvent}

-- the event that a byte ends, if it ends one, with its line and the set that the reader then holds where it is a cut
abbrev pub given : ℕ → Option Event → List Bool → List AnswerEvent
given n None members = []
given n (Some (event.Cut weight)) members = record { line = n; event = event.Cut weight; members = Some members } ∷ []
given n (Some e) members = record { line = n; event = e; members = None } ∷ []
