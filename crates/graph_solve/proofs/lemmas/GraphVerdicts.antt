-- The only verdict on an answer in a graph.
use Rattle.std.proofs.Common.{ℕ, ◌≡◌, List, sym, ap, ◌∙◌, arith}
use Rattle.net_graph.specs.Graph.{Graph}
use Rattle.cert_check.specs.declared.verdict.Finished.{Finished}
use Rattle.cert_check.specs.declared.verdict.Ruling.{Ruling}
use Rattle.cert_check.specs.declared.verdict.Ruling.TheVariants.{Accepted, Refused}
use Rattle.cert_check.specs.declared.verdict.Verdict.TheVariants as verdict
use Rattle.cert_check.specs.Named.{in_graph}
use Rattle.cert_check.specs.Rulings.{verdict_of}
use Rattle.cert_check.specs.Verdicts.{IsVerdictIn}
use Rattle.graph_solve.specs.Accepted.{IsOnlyVerdictOn}

-- two of which a checker's are one are one
same_ruling : (v v' : Ruling) → verdict_of v ≡ verdict_of v' → v ≡ v'
same_ruling (Accepted length bound optimal) (Accepted length' bound' optimal') same = grind arith
same_ruling (Accepted length bound optimal) (Refused cause) same = grind arith
same_ruling (Refused cause) (Accepted length bound optimal) same = grind arith
same_ruling (Refused cause) (Refused cause') same = grind arith

-- so what is a checker's only verdict is the only one
pub only_told : (g : Graph) (bytes : List ℕ) (f : Finished) (v : Ruling) → verdict_of v ≡ f.verdict →
    ((other : Finished) → IsVerdictIn (in_graph g) bytes other → other ≡ f) → IsOnlyVerdictOn g bytes v
only_told g bytes f v is only other (f', stands, is') =
    same_ruling other v (is' ∙ ap (λ (x : Finished). x.verdict) (only f' stands) ∙ sym is)
