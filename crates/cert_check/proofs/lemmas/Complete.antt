-- An answer that should be accepted is accepted.
use Rattle.std.proofs.Common.{ℕ, suc, ◌≤◌, Bool, List, [], ◌∷◌, ◌++◌, length, inl, inr, refl, sym, ap, ◌∙◌}
use Rattle.std.proofs.Common.{subst, arith}
use Rattle.std.proofs.lemmas.List.{append-nil}
use Rattle.cert_tree.specs.declared.split.SplitOn.{SplitOn}
use Rattle.cert_tree.specs.Tree.{Tree}
use Rattle.net_graph.specs.Members.{members_of}
use Rattle.answer_text.specs.declared.event.AnswerEvent.{AnswerEvent}
use Rattle.answer_text.specs.Forms.{silent_lines}
use Rattle.answer_text.specs.Value.{WrittenAnswer}
use Rattle.answer_text.specs.Events.{Told, events_of}
use Rattle.answer_text.specs.Spelling.{SpellsAnswer, OneReading}
use Rattle.tree_judge.specs.declared.claim.Claim.{Claim}
use Rattle.tree_judge.specs.AnswerLaws.{answer_passes}
use Rattle.tree_judge.specs.Ends.{IsRightEnd}
use Rattle.tree_judge.specs.EndLaws.{right_without_fault}
use Rattle.tree_judge.specs.Judged.{SoFar, bound_found, nothing_told}
use Rattle.cert_check.specs.Named.{IsNamed, Named}
use Rattle.cert_check.specs.declared.verdict.Verdict.{Verdict}
use Rattle.cert_check.specs.declared.verdict.Verdict.TheVariants.{Accepted, Refused, TooLong}
use Rattle.cert_check.specs.declared.verdict.Finished.{Finished}
use Rattle.cert_check.specs.Ends.{EndsWith}
use Rattle.cert_check.specs.Lines.{Behind, ReadsLines}
use Rattle.cert_check.specs.Lines.Behind.{Ended, Ceased, Further}
use Rattle.cert_check.specs.Judged.{Judges}
use Rattle.cert_check.specs.Resolved.{claim_of}
use Rattle.cert_check.specs.Verdicts.{IsJudged, IsVerdictIn, byte_limit}
use Rattle.cert_check.specs.Accepted.{AcceptsIn, IsAcceptedIn, IsAccepting}
use Rattle.cert_check.proofs.lemmas.ToldParts.{answer_told, events_of-told}
use Rattle.cert_check.proofs.lemmas.LineSteps.{JudgesTold, passed}
use Rattle.cert_check.proofs.lemmas.Runs.{Runs}
use Rattle.cert_check.proofs.lemmas.SameLines.{further_whole}
use Rattle.cert_check.proofs.lemmas.StepsTold.{answer_named}
use Rattle.cert_check.proofs.lemmas.OneVerdict.{judged_further, passes_not_fails, same_passed}

-- ---- the lines

-- an answer that says bound and status right is accepted
accepting_end : (c : Claim) (found : ℕ) (v : Verdict) → IsRightEnd c found → EndsWith c found v → IsAccepting v
accepting_end c found (Accepted length bound optimal) right ends = tt
accepting_end c found (Refused cause) right fault = right_without_fault c found cause right fault
accepting_end c found TooLong right ends = absurd ends

-- behind lines that pass the others are judged
judged_behind : (N : Named) → IsNamed N → (s s' : SoFar) (n : ℕ) (xs ys : List Told) (f : Finished) → Runs N s xs s' →
    JudgesTold N s n (xs ++ ys) f → (m : ℕ) × JudgesTold N s' m ys f
judged_behind N names s s' n [] ys f runs judged = (n, subst (λ x. JudgesTold N x n ys f) (sym runs) judged)
judged_behind N names s s' n (x ∷ xs) ys f (m, passes, runs) judged =
    let (m', passes', behind) = passed N s n x (xs ++ ys) f
    (λ cause fails. passes_not_fails N names s m n x.0 x.1 cause f.network passes fails) judged in
    let same = same_passed N names s m' m x.0 x.1 passes' passes in
    judged_behind N names m s' (suc n) xs ys f runs (subst (λ z. JudgesTold N z (suc n) (xs ++ ys) f) same behind)

-- the lines of an answer are accepted
answer_accepted : (N : Named) → IsNamed N → (bytes : List ℕ) (answer : WrittenAnswer) (network : List Bool)
    (tree : Tree SplitOn) (f : Finished) → AcceptsIn N bytes answer network tree →
    Judges N (nothing_told N.graph) (events_of answer) Ended f → IsAccepting f.verdict
answer_accepted N names bytes answer network tree f accepts of_events =
    let g = N.graph in
    let claim = claim_of answer.head in
    let passes = answer_passes g claim network tree (record {
      size = accepts.size;
      joins = accepts.joins;
      plain_length = accepts.plain_length;
      few = accepts.few;
      valid = accepts.valid;
    }) in
    let last = passes.last in
    let runs = answer_named N (nothing_told g) last answer (members_of network) tree accepts.edges accepts.named_tree
    accepts.splits passes.runs in
    let judged : JudgesTold N (nothing_told g) (suc (silent_lines N.form)) (answer_told answer ++ []) f =
    subst (λ xs. JudgesTold N (nothing_told g) (suc (silent_lines N.form)) xs f) (sym (append-nil (answer_told answer)))
    (subst (λ es. Judges N (nothing_told g) es Ended f) (events_of-told N.form answer accepts.spells.fits) of_events) in
    let (m, ends) = judged_behind N names (nothing_told g) last (suc (silent_lines N.form)) (answer_told answer) [] f runs judged in
    accepting_end claim (bound_found last) f.verdict
    (record { bound = accepts.bound ∙ sym passes.found; status = accepts.status })
    (subst (λ c. EndsWith c (bound_found last) f.verdict) passes.says ends.0)

-- ---- the bytes

-- the verdict on the lines of bytes that spell an answer is that on all lines of the answer
pub judged_whole : OneReading →
    (N : Named) (bytes : List ℕ) (answer : WrittenAnswer) (events : List AnswerEvent) (behind : Behind)
    (f : Finished)
    → SpellsAnswer N.form bytes answer → ReadsLines
    N.form bytes events behind → Judges N (nothing_told N.graph) events behind f →
    Judges N (nothing_told N.graph) (events_of answer) Ended f
judged_whole one N bytes answer events Ended f spells read judged =
    let same = one N.form bytes bytes [] [] read.answer answer read.spells spells refl in
    subst (λ xs. Judges N (nothing_told N.graph) xs Ended f) (read.told ∙ ap events_of same.1) judged
judged_whole one N bytes answer events (Ceased n) f spells read judged = absurd (read.unspelled answer spells)
judged_whole one N bytes answer events Further f spells read judged =
    let longer = further_whole N.form bytes events (events_of answer) read
    (record { answer = answer; spells = spells; told = refl }) in
    subst (λ xs. Judges N (nothing_told N.graph) xs Ended f) (sym longer.1)
    (judged_further N (nothing_told N.graph) events longer.0 Ended f judged)

-- the verdict on bytes that should be accepted accepts them
complete_judged : OneReading → (N : Named) → IsNamed N → (bytes : List ℕ) (f : Finished) → IsJudged N bytes f →
    IsAcceptedIn N bytes → IsAccepting f.verdict
complete_judged one N names bytes f verdict (answer, network, tree, accepts) =
    answer_accepted N names bytes answer network tree f accepts
    (judged_whole one N bytes answer verdict.events verdict.behind f accepts.spells verdict.read verdict.judged)

pub complete : OneReading → (N : Named) → IsNamed N → (bytes : List ℕ) (f : Finished) → IsVerdictIn N bytes f →
    length bytes ≤ byte_limit → IsAcceptedIn N bytes → IsAccepting f.verdict
complete one N names bytes f (inl verdict) few accepted = complete_judged one N names bytes f verdict.judged accepted
complete one N names bytes f (inr verdict) few accepted = absurd (omega (arith, verdict.many, few))
