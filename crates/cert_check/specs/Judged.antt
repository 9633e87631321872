-- The verdict on an answer, line by line: when the next line is right, and why it is wrong.
use Rattle.std.specs.Prelude.{ℕ, ◌≡◌, Bool, List, [], ◌∷◌, Option, ◌⊎◌}
use Rattle.answer_text.specs.declared.event.Event.{Event}
use Rattle.answer_text.specs.declared.event.AnswerEvent.{AnswerEvent}
use Rattle.tree_judge.specs.declared.cause.Cause.{Cause}
use Rattle.tree_judge.specs.declared.cause.Cause.TheVariants.{NotAnswer}
use Rattle.tree_judge.specs.Judged.{SoFar, bound_found}
use Rattle.tree_judge.specs.Judged as steps
use Rattle.cert_check.specs.Named.{Named}
use Rattle.cert_check.specs.declared.verdict.Verdict.TheVariants.{Refused}
use Rattle.cert_check.specs.declared.verdict.Finished.{Finished}
use Rattle.cert_check.specs.Resolved.{ResolvesTo, NameFault}
use Rattle.cert_check.specs.Ends.{EndsWith}
use Rattle.cert_check.specs.Lines.{Behind}
use Rattle.cert_check.specs.Lines.Behind.{Ended, Ceased, Further}

-- the next line's names are the graph's, and its step is right behind what was told; this is told with it
abbrev pub Passes : Named → SoFar → Event → Option (List Bool) → SoFar → Type 0
Passes N s e members s' = ResolvesTo N e (λ step. steps.Passes N.graph s step members s')

-- the next line, of number n, is wrong behind what was told, for this cause, and these edges were told before it: its
-- name is none of the graph's, or its step is wrong
abbrev pub Fails : Named → SoFar → ℕ → Event → Option (List Bool) → Cause → List Bool → Type 0
Fails N s n e members cause network =
    (NameFault N n e cause × (network ≡ s.network))
    ⊎ ResolvesTo N e (λ step. steps.Fails N.graph s n step members cause network)

-- The verdict behind what was told, where these lines follow: the first wrong one decides. Behind them all the text
-- ends, or ceases to begin an answer in its line n; where it goes on one of them has to be wrong.
abbrev pub Judges : Named → SoFar → List AnswerEvent → Behind → Finished → Type 0
Judges N s [] Ended f = EndsWith s.claim (bound_found s) f.verdict × (f.network ≡ s.network)
Judges N s [] (Ceased n) f = (f.verdict ≡ Refused (NotAnswer n)) × (f.network ≡ s.network)
Judges N s [] Further f = ⊥
Judges N s (e ∷ es) behind f =
    ((cause : Cause) × Fails N s e.line e.event e.members cause f.network × (f.verdict ≡ Refused cause))
    ⊎ ((s' : SoFar) × Passes N s e.event e.members s' × Judges N s' es behind f)
