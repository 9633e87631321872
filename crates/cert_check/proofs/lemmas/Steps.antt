-- What a judge says of the step of a line, said of the line.
use Rattle.std.proofs.Common.{ℕ, ◌≡◌, Bool, List, Some, None, arith}
use Rattle.std.specs.Prelude.{Option, IfNone, IfSome}
use Rattle.answer_text.specs.declared.event.Event.{Event}
use Rattle.tree_judge.specs.declared.cause.Cause.{Cause}
use Rattle.tree_judge.specs.declared.judge.Judge.{Judge}
use Rattle.tree_judge.specs.declared.step.Step.{Step}
use Rattle.tree_judge.specs.Judged.{SoFar}
use Rattle.tree_judge.specs.Judged as steps
use Rattle.tree_judge.specs.Standing.{StandsFor, network_of}
use Rattle.cert_check.specs.Named.{Named}
use Rattle.cert_check.specs.Judged.{Passes, Fails}
use Rattle.cert_check.specs.Resolved.{ResolvesTo}
use Rattle.cert_check.proofs.lemmas.Names.{ResolvesTo-step}

-- where the step passes
pub line_passes : (N : Named) (e : Event) (told : Step) (set : List Bool) (old new : Judge)
    (result : Option Cause) → ResolvesTo N e (λ x. x ≡ told) →
    IfNone result ((s : SoFar) → StandsFor N.graph s old → (s' : SoFar)
    × steps.Passes N.graph s told (Some set) s' × StandsFor N.graph s' new) →
    IfNone result ((s : SoFar) → StandsFor N.graph s old → (s' : SoFar)
    × Passes N s e (Some set) s' × StandsFor N.graph s' new)
line_passes N e told set old new None is passes = grind (arith, ResolvesTo-step)
line_passes N e told set old new (Some cause) is passes = passes

-- where it fails
pub line_fails : (N : Named) (e : Event) (told : Step) (set : List Bool) (line : ℕ) (old new : Judge)
    (result : Option Cause) → ResolvesTo N e (λ x. x ≡ told) →
    IfSome result (λ cause. (s : SoFar) → StandsFor N.graph s old →
    steps.Fails N.graph s line told (Some set) cause (network_of new)) →
    IfSome result (λ cause. (s : SoFar) → StandsFor N.graph s old →
    Fails N s line e (Some set) cause (network_of new))
line_fails N e told set line old new None is fails = fails
line_fails N e told set line old new (Some cause) is fails = grind (arith, ResolvesTo-step, Some set)
