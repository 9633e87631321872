use Rattle.std.proofs.Common.{ℕ, ◌≡◌, ◌<◌, ◌+◌, ◌*◌, ◌∙◌, List, length, get_or, subst, ap, sym, arith}
use Rattle.std.proofs.lemmas.List.{get_or_read}
use Rattle.std.proofs.lemmas.Nat.{mul-add-lt}
use Rattle.points_in.specs.declared.point.Point.{Point}
use Rattle.spanning.specs.Bottleneck.{entry, IsBottleneck}
use Rattle.spanning.proofs.table.Table.between.Goals as goal

pub returns : goal.returns
returns c =
    let ps : List Point = c.self.inside.points in
    let lengths : List ℕ = c.self.inside.lengths.items in
    let i = c.args.i in
    let j = c.args.j in
    let of_self : ps ≡ c.args.self.now = c.self.view_is in
    let i_in : i < length ps = omega (arith, ap length of_self, c.requires.first) in
    let j_in : j < length ps = omega (arith, ap length of_self, c.requires.second) in
    let place : c.len.result ≡ length ps = c.len.ensures.value in
    let within : i * length ps + j < length lengths = omega (arith, mul-add-lt i (length ps) j (length ps) i_in j_in, c.self.invariant.size) in
    let at : c.index.result.now ≡ get_or lengths (i * length ps + j) c.index.result.now =
    c.index.ensures ∙ ap (λ n. get_or lengths (i * n + j) c.index.result.now) place in
    let is : c.index.result.now ≡ entry lengths (length ps) i j = get_or_read lengths (i * length ps + j) c.index.result.now within at 0 in
    subst (λ (qs : List Point). IsBottleneck qs i j c.index.result.now) of_self
    (subst (λ b. IsBottleneck ps i j b) (sym is) (c.self.invariant.each i j i_in j_in))
