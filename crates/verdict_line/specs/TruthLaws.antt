-- What a line tells is true.
use Rattle.std.proofs.Common.{ℕ, ◌≡◌, ◌≤◌, List, length, subst, ap, ◌∙◌}
use Rattle.rst_outside.specs.Sink.{SinkState, Appended}
use Rattle.net_graph.specs.Network.{IsLowerBound}
use Rattle.cert_check.specs.declared.verdict.Finished.{Finished}
use Rattle.cert_check.specs.declared.verdict.Ruling.{Ruling}
use Rattle.cert_check.specs.declared.verdict.Ruling.TheVariants.{Accepted, Refused}
use Rattle.cert_check.specs.Named.{Named}
use Rattle.cert_check.specs.Rulings.{verdict_of}
use Rattle.cert_check.specs.Verdicts.{byte_limit}
use Rattle.cert_check.specs.Accepted.{IsAccepting}
use Rattle.cert_check.specs.AcceptedLaws.{shortest_where_optimal}
use Rattle.tool_frame.specs.Statuses.{answer_code}
use Rattle.verdict_line.specs.declared.counting.Counting.{Counting}
use Rattle.verdict_line.specs.Judging.{JudgesBytes}
use Rattle.verdict_line.specs.Truth.{JudgesTruly}
use Rattle.verdict_line.specs.Verdicts.{accepted_line, line_text_by, ruling_status}

-- Where the line of the verdict on bytes that aren't too many was written, what it tells is true.
pub judges_truly : (N : Named) (bytes : List ℕ) (f : Finished) (counting : Counting) (ruling : Ruling)
    (out out' : SinkState) (status : ℕ) → f.verdict ≡ verdict_of ruling → length bytes ≤ byte_limit →
    JudgesBytes N bytes f → Appended out.taken (line_text_by counting ruling) out'.taken →
    status ≡ answer_code (ruling_status ruling) → JudgesTruly N bytes out out' status
judges_truly N bytes f counting (Accepted length bound optimal) out out' status is few judges told ends =
    let (answer, tree, accepts, length_is, bound_is, optimal_is) = judges.accepted length bound optimal is in
    let line : accepted_line length bound optimal
    ≡ accepted_line answer.head.length answer.head.bound answer.head.optimal =
    ap (λ l. accepted_line l bound optimal) length_is ∙ ap (λ b. accepted_line answer.head.length b optimal) bound_is
    ∙ ap (λ o. accepted_line answer.head.length answer.head.bound o) optimal_is in
    let below : IsLowerBound N.graph answer.head.bound =
    subst (λ b. IsLowerBound N.graph b) bound_is (judges.bound length bound optimal is) in (
      (λ zero. (answer, f.network, tree, accepts), λ some. ends),
      λ zero. (
        answer,
        f.network,
        tree,
        accepts,
        subst (λ text. Appended out.taken text out'.taken) line told,
        below,
        λ marked. shortest_where_optimal N bytes answer f.network tree accepts below marked,
      ),
    )
judges_truly N bytes f counting (Refused cause) out out' status is few judges told ends = (
  (λ zero. absurd cc, λ some. absurd (subst IsAccepting is (judges.complete few some))),
  λ zero. absurd cc,
)
