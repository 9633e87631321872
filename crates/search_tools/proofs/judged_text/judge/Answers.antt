-- The text is that of an answer, so the verdict accepts it.
use Rattle.std.proofs.Common.{◌≤◌, ◌∙◌, length, ap, subst, sym, inl, inr, arith}
use Rattle.cert_check.specs.Accepted.{IsAccepted, IsAccepting}
use Rattle.cert_check.specs.Verdicts.{byte_limit}
use Rattle.search_tools.proofs.AnswerLaws.{accepted_text}
use Rattle.search_tools.proofs.judged_text.judge.Goals as goal

pub unreachable-requires : goal.unreachable-requires
unreachable-requires c =
    let (options, ps, trees, is) = c.requires in
    let same = c.bytes.ensures ∙ c.in_ok-text.ensures in
    let few : length c.bytes.result.now ≤ byte_limit =
    let short = is.few_bytes in let equal = ap length same in omega (arith, short, equal) in
    let accepted = subst (IsAccepted c.args.solution.now.instance) (sym same)
    (accepted_text c.args.solution.now c.requires) in
    let accepts = c.in_ok-verdict_on.ensures few accepted in
    elim c.in-Refused.is [
      | inl (cause, refused) ↦ subst IsAccepting refused accepts
      | inr long ↦ subst IsAccepting long accepts
    ]
