-- There is one verdict on bytes: each line passes or fails, in one way.
use Rattle.std.proofs.Common.{ℕ, ◌≡◌, Bool, List, [], ◌∷◌, ◌++◌, Option, inl, inr, sym, ap, ◌∙◌, subst, take, arith}
use Rattle.answer_text.specs.declared.event.Event.{Event}
use Rattle.answer_text.specs.declared.event.AnswerEvent.{AnswerEvent}
use Rattle.answer_text.specs.Spelling.{OneReading}
use Rattle.tree_judge.specs.declared.cause.Cause.{Cause}
use Rattle.tree_judge.specs.declared.claim.Claim.{Claim}
use Rattle.tree_judge.specs.Judged.{SoFar, bound_found, nothing_told}
use Rattle.tree_judge.specs.EndLaws.{right_without_fault, same_end_fault}
use Rattle.tree_judge.specs.StepLaws.{IsSameFault}
use Rattle.tree_judge.specs.StepLaws as steps
use Rattle.cert_check.specs.Named.{IsNamed, Named}
use Rattle.cert_check.specs.declared.verdict.Verdict.{Verdict}
use Rattle.cert_check.specs.declared.verdict.Verdict.TheVariants.{Accepted, Refused, TooLong}
use Rattle.cert_check.specs.declared.verdict.Finished.{Finished}
use Rattle.cert_check.specs.Ends.{EndsWith}
use Rattle.cert_check.specs.Judged.{Passes, Fails, Judges}
use Rattle.cert_check.specs.VerdictLaw.{OneVerdict}
use Rattle.cert_check.specs.Lines.{Behind}
use Rattle.cert_check.specs.Lines.Behind.{Ended, Ceased, Further}
use Rattle.cert_check.specs.Verdicts.{IsJudged, IsVerdictIn, byte_limit}
use Rattle.cert_check.proofs.lemmas.Names.{ResolvesTo-both, resolved_without_fault, same_name_fault}
use Rattle.cert_check.proofs.lemmas.SameLines.{SameReading, same_lines}

-- ---- one line

-- what is told with a line that passes is determined
pub same_passed : (N : Named) → IsNamed N → (s m m' : SoFar) (e : Event) (members : Option (List Bool)) →
    Passes N s e members m → Passes N s e members m' → m ≡ m'
same_passed N names s m m' e members passes passes' = grind (arith, ResolvesTo-both)

-- a line that passes does not fail
pub passes_not_fails : {P : Type 0} (N : Named) → IsNamed N → (s m : SoFar) (n : ℕ) (e : Event)
    (members : Option (List Bool)) (cause : Cause) (network : List Bool) → Passes N s e members m →
    Fails N s n e members cause network → P
passes_not_fails {P = P} N names s m n e members cause network passes fails = elim fails [
  | inl off ↦ resolved_without_fault N n e cause _ passes off.0
  | inr wrong ↦
      ResolvesTo-both N names e _ _ P
      (λ x is is_not. steps.passes_not_fails N.graph s m n x members cause network is is_not) passes wrong
]

-- and a line that fails does so for one cause, behind one set of edges
same_failed : (N : Named) → IsNamed N → (s : SoFar) (n : ℕ) (e : Event) (members : Option (List Bool)) (cause cause' : Cause)
    (network network' : List Bool) → Fails N s n e members cause network → Fails N s n e members cause' network' →
    IsSameFault cause network cause' network'
same_failed N names s n e members cause cause' network network' (inl off) (inl off') =
    (same_name_fault N n e cause cause' off.0 off'.0, off.1 ∙ sym off'.1)
same_failed N names s n e members cause cause' network network' (inl off) (inr wrong') =
    resolved_without_fault N n e cause _ wrong' off.0
same_failed N names s n e members cause cause' network network' (inr wrong) (inl off') =
    resolved_without_fault N n e cause' _ wrong off'.0
same_failed N names s n e members cause cause' network network' (inr wrong) (inr wrong') =
    ResolvesTo-both N names e _ _ (IsSameFault cause network cause' network')
    (λ x is is'. steps.same_failed N.graph s n x members cause cause' network network' is is') wrong wrong'

-- ---- the end

-- the verdict behind an answer whose every line passes is one
same_end : (c : Claim) (found : ℕ) (v v' : Verdict) → EndsWith c found v → EndsWith c found v' → v ≡ v'
same_end c found (Accepted length bound optimal) (Accepted length' bound' optimal') is is' =
    λ i. Accepted ((is.1 ∙ sym is'.1) i) ((is.2 ∙ sym is'.2) i) ((is.3 ∙ sym is'.3) i)
same_end c found (Accepted length bound optimal) (Refused cause) is fault = right_without_fault c found cause is.0 fault
same_end c found (Accepted length bound optimal) TooLong is is' = absurd is'
same_end c found (Refused cause) (Accepted length bound optimal) fault is = right_without_fault c found cause is.0 fault
same_end c found (Refused cause) (Refused cause') fault fault' = ap Refused (same_end_fault c found cause cause' fault fault')
same_end c found (Refused cause) TooLong fault is' = absurd is'
same_end c found TooLong v' is is' = absurd is

-- ---- all lines

-- verdicts with one verdict and one set of edges are one
same_finished : (f f' : Finished) → f.verdict ≡ f'.verdict → f.network ≡ f'.network → f ≡ f'
same_finished f f' verdict network = λ i. record { verdict = verdict i; network = network i }

-- lines have one verdict
same_judged : (N : Named) → IsNamed N → (s : SoFar) (es : List AnswerEvent) (behind : Behind) (f f' : Finished) → Judges N s es behind f → Judges N s es behind f' → f ≡ f'
same_judged N names s [] Ended f f' judged judged' = same_finished f f' (same_end s.claim (bound_found s) f.verdict f'.verdict judged.0 judged'.0) (judged.1 ∙ sym judged'.1)
same_judged N names s [] (Ceased n) f f' judged judged' = same_finished f f' (judged.0 ∙ sym judged'.0) (judged.1 ∙ sym judged'.1)
same_judged N names s [] Further f f' judged judged' = absurd judged
same_judged N names s (e ∷ es) behind f f' (inl (cause, fails, refused)) (inl (cause', fails', refused')) =
    let same = same_failed N names s e.line e.event e.members cause cause' f.network f'.network fails fails' in
    same_finished f f' (refused ∙ ap Refused same.0 ∙ sym refused') same.1
same_judged N names s (e ∷ es) behind f f' (inl (cause, fails, refused)) (inr (m', passes', judged')) = passes_not_fails N names s m' e.line e.event e.members cause f.network passes' fails
same_judged N names s (e ∷ es) behind f f' (inr (m, passes, judged)) (inl (cause', fails', refused')) = passes_not_fails N names s m e.line e.event e.members cause' f'.network passes fails'
same_judged N names s (e ∷ es) behind f f' (inr (m, passes, judged)) (inr (m', passes', judged')) =
    let same : m ≡ m' = same_passed N names s m m' e.event e.members passes passes' in
    same_judged N names m' es behind f f' (subst (λ x. Judges N x es behind f) same judged) judged'

-- a verdict on lines of which one is wrong is that on them and any lines behind
pub judged_further : (N : Named) (s : SoFar) (es more : List AnswerEvent) (behind : Behind) (f : Finished) → Judges N s es Further f → Judges N s (es ++ more) behind f
judged_further N s [] more behind f judged = absurd judged
judged_further N s (e ∷ es) more behind f (inl wrong) = inl wrong
judged_further N s (e ∷ es) more behind f (inr (m, passes, judged)) = inr (m, passes, judged_further N m es more behind f judged)

-- two verdicts on lines of the same bytes are one
same_verdict : (N : Named) → IsNamed N → (es es' : List AnswerEvent) (behind behind' : Behind) (f f' : Finished) → SameReading es es' behind behind' → Judges N (nothing_told N.graph) es behind f →
    Judges N (nothing_told N.graph) es' behind' f' → f ≡ f'
same_verdict N names es es' behind behind' f f' (inl same) judged judged' = grind (arith, same_judged)
same_verdict N names es es' behind behind' f f' (inr (inl (further, more, is))) judged judged' =
    let longer = judged_further N (nothing_told N.graph) es more behind' f (subst (λ b. Judges N (nothing_told N.graph) es b f) further judged) in
    same_judged N names (nothing_told N.graph) es' behind' f f' (subst (λ xs. Judges N (nothing_told N.graph) xs behind' f) (sym is) longer) judged'
same_verdict N names es es' behind behind' f f' (inr (inr (further, more, is))) judged judged' =
    let longer = judged_further N (nothing_told N.graph) es' more behind f' (subst (λ b. Judges N (nothing_told N.graph) es' b f') further judged') in
    same_judged N names (nothing_told N.graph) es behind f f' judged (subst (λ xs. Judges N (nothing_told N.graph) xs behind f') (sym is) longer)

-- the lines of bytes have one verdict, since bytes spell one answer at most
pub one_judged : OneReading → (N : Named) → IsNamed N → (bytes : List ℕ) (f f' : Finished) → IsJudged N bytes f → IsJudged N bytes f' → f ≡ f'
one_judged once N names bytes f f' v v' =
    same_verdict N names v.events v'.events v.behind v'.behind f f' (same_lines once N.form bytes v.events v'.events v.behind v'.behind v.read v'.read) v.judged v'.judged

-- bytes are few enough or too many
pub one_verdict_in : OneReading → (N : Named) → IsNamed N → (bytes : List ℕ) (f f' : Finished) → IsVerdictIn N bytes f →
    IsVerdictIn N bytes f' → f ≡ f'
one_verdict_in once N names bytes f f' (inl v) (inl v') = one_judged once N names bytes f f' v.judged v'.judged
one_verdict_in once N names bytes f f' (inl v) (inr v') = absurd (omega (arith, v.few, v'.many))
one_verdict_in once N names bytes f f' (inr v) (inl v') = absurd (omega (arith, v.many, v'.few))
one_verdict_in once N names bytes f f' (inr v) (inr v') =
    grind (arith, one_judged once N names (take byte_limit bytes) v.first v'.first v.judged v'.judged, same_finished)

-- the law
pub one_verdict_lem : OneReading → OneVerdict
one_verdict_lem once N names bytes f f' = one_verdict_in once N names bytes f f'
