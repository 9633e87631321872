use Rattle.std.specs.Prelude.{◌<◌, All}
use Rattle.std.proofs.Common.{sym, ap, ◌∙◌, subst}
use Rattle.std.proofs.lemmas.List.Elements.{All-append}
use Rattle.graph_reduce.specs.State.{union}
use Rattle.graph_reduce.specs.Originals.{flags_of}
use Rattle.graph_reduce.proofs.lemmas.Originals.{flags_of_both, same_size}
use Rattle.graph_reduce.proofs.originals.Originals.take_in.Goals as goal

pub invariant_of-self-2 : goal.invariant_of-self-2
invariant_of-self-2 c =
    let o = c.self.inside in
    let more = c.other.inside in
    let same = same_size more.size o.size more.numbers.items o.numbers.items c.args.other c.args.self.now
    c.other.view_is c.self.view_is c.requires in
    rw c.in_ok-append.ensures.items (All-append (λ n. n < o.size) o.numbers.items more.numbers.items c.self.invariant
    (subst (λ size. All (λ n. n < size) more.numbers.items) same c.other.invariant))

pub returns : goal.returns
returns c =
    let o = c.self.inside in
    let more = c.other.inside in
    let same = same_size more.size o.size more.numbers.items o.numbers.items c.args.other c.args.self.now
    c.other.view_is c.self.view_is c.requires in
    ap (flags_of o.size) c.in_ok-append.ensures.items ∙ flags_of_both o.size o.numbers.items more.numbers.items
    ∙ ap (λ set. union set (flags_of o.size more.numbers.items)) c.self.view_is
    ∙ ap (union c.args.self.now) (ap (λ size. flags_of size more.numbers.items) (sym same) ∙ c.other.view_is)
