-- A verdict that accepts is right: what the answer says of its network and its tree holds.
use Rattle.std.proofs.Common.{ℕ, suc, ◌≡◌, Bool, List, inl, inr, sym, ap, ◌∙◌, subst}
use Rattle.answer_text.specs.Forms.{silent_lines}
use Rattle.answer_text.specs.Value.{WrittenAnswer}
use Rattle.answer_text.specs.Answers.{edge_labels}
use Rattle.answer_text.specs.Spelling.{FitsTree, SpellsAnswer}
use Rattle.answer_text.specs.Reading.{IsReadWhole}
use Rattle.tree_judge.specs.AnswerLaws.{answer_sound}
use Rattle.tree_judge.specs.Judged.{bound_found, nothing_told}
use Rattle.cert_check.specs.Named.{Named}
use Rattle.cert_check.specs.declared.verdict.Verdict.TheVariants.{Accepted, TooLong}
use Rattle.cert_check.specs.declared.verdict.Finished.{Finished}
use Rattle.cert_check.specs.Ends.{EndsWith}
use Rattle.cert_check.specs.Lines.{ReadsLines}
use Rattle.cert_check.specs.Lines.Behind.{Ended}
use Rattle.cert_check.specs.Judged.{Judges}
use Rattle.cert_check.specs.Resolved.{claim_of}
use Rattle.cert_check.specs.Verdicts.{IsJudged, IsVerdictIn}
use Rattle.cert_check.specs.Accepted.{AcceptsIn, AcceptsAsIn}
use Rattle.cert_check.proofs.lemmas.Runs.{AcceptsBehind, AcceptsBehind-judged, whole_where_accepted}
use Rattle.cert_check.proofs.lemmas.StepsTold.{answer_resolved, tree_weights}
use Rattle.cert_check.proofs.lemmas.ToldParts.{answer_told, events_of-told, numbered}

-- an answer whose lines all pass, and behind which the verdict accepts, is accepted
Accepts-from_lines : (N : Named) (bytes : List ℕ) (a : WrittenAnswer) (network : List Bool)
    (length bound : ℕ) (optimal : Bool) → SpellsAnswer N.form bytes a →
    AcceptsBehind N (nothing_told N.graph) (answer_told a) length bound optimal network →
    AcceptsAsIn N bytes network length bound optimal
Accepts-from_lines N bytes a network length bound optimal spells behind =
    let s = behind.last in
    let g = N.graph in
    let told = answer_resolved N (nothing_told g) s a behind.runs in
    let t = told.tree in
    let fits = subst (FitsTree a.version N.form) told.named_tree spells.fits.tree in
    let tells = answer_sound g (claim_of a.head) told.edges t s told.runs
    (tree_weights N a.version N.form t fits) in
    let ends : EndsWith (claim_of a.head) (bound_found s) (Accepted length bound optimal) =
    subst (λ c. EndsWith c (bound_found s) (Accepted length bound optimal)) tells.says behind.ends in
    let accepts : AcceptsIn N bytes a s.network t = record {
      spells = spells;
      size = tells.sound.size;
      edges = sym told.named_edges ∙ ap (edge_labels N.labels) (sym tells.edges_are);
      joins = tells.sound.joins;
      plain_length = tells.sound.plain_length;
      named_tree = told.named_tree;
      splits = told.splits;
      few = tells.sound.few;
      valid = tells.sound.valid;
      bound = ends.0.bound ∙ tells.found;
      status = ends.0.status;
    } in
    (a, t, rw behind.network_is accepts, ends.1, ends.2, ends.3)

-- what a verdict accepts is accepted
pub AcceptsAs-from_judged : (N : Named) (bytes : List ℕ) (f : Finished) (length bound : ℕ) (optimal : Bool) →
    IsJudged N bytes f → f.verdict ≡ Accepted length bound optimal →
    AcceptsAsIn N bytes f.network length bound optimal
AcceptsAs-from_judged N bytes f length bound optimal v is =
    let whole : v.behind ≡ Ended = whole_where_accepted N
    (nothing_told N.graph) v.events v.behind f length bound optimal v.judged is in
    let read : IsReadWhole N.form bytes v.events = subst
    (ReadsLines N.form bytes v.events) whole v.read in
    let told : v.events ≡ numbered (suc (silent_lines N.form)) (answer_told read.answer) = read.told ∙ events_of-told N.form read.answer read.spells.fits in
    let judged : Judges N (nothing_told N.graph) (numbered (suc (silent_lines N.form)) (answer_told read.answer)) Ended f = rw
    (whole, told) at v.judged in
    Accepts-from_lines N bytes read.answer f.network length bound optimal read.spells
    (AcceptsBehind-judged N (nothing_told N.graph) (suc (silent_lines N.form))
    (answer_told read.answer) f length bound optimal judged is)

pub AcceptsAs-from_verdict : (N : Named) (bytes : List ℕ) (f : Finished) (length bound : ℕ)
    (optimal : Bool) → IsVerdictIn N bytes f → f.verdict ≡ Accepted length bound optimal →
    AcceptsAsIn N bytes f.network length bound optimal
AcceptsAs-from_verdict N bytes f length bound optimal
    (inl v) is = AcceptsAs-from_judged N bytes f length bound optimal v.judged is
AcceptsAs-from_verdict N bytes f length bound optimal
    (inr v) is = let no : Accepted length bound optimal ≡ TooLong = sym is ∙ v.verdict in absurd cc
