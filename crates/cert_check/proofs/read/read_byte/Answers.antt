use Rattle.std.proofs.Common.{◌∷◌, [], ◌++◌, length, Some, None, sym, ap, ◌∙◌, subst}
use Rattle.std.specs.Prelude.{Option, IfNone}
use Rattle.std.proofs.Math.Logic.{∥∥₁_elim, ∥∥₁_map}
use Rattle.std.proofs.Math.Nat.{ℕ_set}
use Rattle.answer_text.specs.Given.{given}
use Rattle.answer_text.specs.Reader.{Reads, line_due, set_read}
use Rattle.cert_check.specs.Named.{named_of}
use Rattle.cert_check.proofs.lemmas.SubjectNames.{set_size_of}
use Rattle.cert_check.proofs.lemmas.Bytes.{follows_spelling, follows_quiet, follows_judged}
use Rattle.cert_check.proofs.read.read_byte.Goals as goal

-- what always holds
IfNone-always : {X P : Type 0} (x : Option X) → P → IfNone x P
IfNone-always None p = p
IfNone-always (Some x) p = tt

pub returns-in-Err-clause-follows : goal.returns-in-Err-clause-follows
returns-in-Err-clause-follows c bytes (events, s, reads, passes, stands) =
    follows_spelling (named_of c.args.subject) bytes c.args.byte c.in-Err.fault.line events s c.feed.new.self c.args.judge.now passes stands
    (c.in-Err.ensures.ceases (named_of c.args.subject).form bytes events reads)

pub returns-in_default-clause-reads : goal.returns-in_default-clause-reads
returns-in_default-clause-reads c =
    ∥∥₁_map c.requires.reads
    (λ r. (r.0 ++ c.args.byte ∷ [], r.1 ++ given (line_due c.args.reader.now) c.in-Ok.told (set_read c.feed.new.self), c.in-Ok.ensures.reads (named_of c.args.subject).form r.0 r.1 r.2))

pub returns-in_default-clause-follows : goal.returns-in_default-clause-follows
returns-in_default-clause-follows c bytes (events, s, reads, passes, stands) =
    let F = (named_of c.args.subject).form in
    let next = subst (λ t. Reads F (bytes ++ c.args.byte ∷ []) (events ++ given (line_due c.args.reader.now) t (set_read c.feed.new.self)) c.feed.new.self) c.in_default.is
    (c.in-Ok.ensures.reads F bytes events reads) in
    follows_quiet (named_of c.args.subject) bytes c.args.byte (line_due c.args.reader.now) (set_read c.feed.new.self) events s c.feed.new.self c.args.judge.now passes stands next

pub judge_line-requires-clause-members : goal.judge_line-requires-clause-members
judge_line-requires-clause-members c =
    let F = (named_of c.args.subject).form in
    ∥∥₁_elim c.requires.reads (ℕ_set (length c.members.result.now) (named_of c.args.subject).graph.vertices)
    (λ r. ap length c.members.ensures ∙ (c.in-Ok.ensures.reads F r.0 r.1 r.2).vertices ∙ set_size_of c.args.subject)

pub returns-clause-reads : goal.returns-clause-reads
returns-clause-reads c =
    IfNone-always c.judge_line.result
    (∥∥₁_map c.requires.reads
    (λ r. (r.0 ++ c.args.byte ∷ [], r.1 ++ given (line_due c.args.reader.now) c.in-Ok.told (set_read c.feed.new.self), c.in-Ok.ensures.reads (named_of c.args.subject).form r.0 r.1 r.2)))

pub returns-clause-follows : goal.returns-clause-follows
returns-clause-follows c bytes (events, s, reads, passes, stands) =
    let F = (named_of c.args.subject).form in
    let next = rw c.in-Some.is at (c.in-Ok.ensures.reads F bytes events reads) in
    let lined = subst (λ n. Reads F (bytes ++ c.args.byte ∷ []) (events ++ given n (Some c.in-Some.event) (set_read c.feed.new.self)) c.feed.new.self) (sym c.line-line.ensures.line) next in
    let told = subst (λ m. Reads F (bytes ++ c.args.byte ∷ []) (events ++ given c.line-line.result (Some c.in-Some.event) m) c.feed.new.self) (sym c.members.ensures) lined in
    follows_judged (named_of c.args.subject) bytes c.args.byte c.line-line.result c.in-Some.event c.members.result.now events s c.feed.new.self c.args.judge.now c.judge_line.new.judge c.judge_line.result
    passes stands told (c.reads_beginnings.ensures F (bytes ++ c.args.byte ∷ []) (events ++ given c.line-line.result (Some c.in-Some.event) c.members.result.now) c.feed.new.self told)
    c.judge_line.ensures.passes c.judge_line.ensures.fault
