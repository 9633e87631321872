-- What the slice leaves behind is a row of the same length.
use Rattle.std.proofs.Common.{◌≡◌, ◌++◌, length, take, drop, refl, sym, ap, ◌∙◌}
use Rattle.lists.proofs.row.Row.numbers_mut.Goals as goal

pub returns : goal.returns
returns c =
    let kept = c.self.inside.numbers in
    let long : kept.len ≡ length kept.items = sym c.as_mut_slice.ensures.len ∙ ap length c.as_mut_slice.ensures.value in (
      (refl, λ w. ap (λ n. take n (w ++ drop (length w) kept.items)) long ∙ ap (λ xs. take (length xs) (w ++ drop (length w) xs)) c.self.view_is),
      record { writes_back = tt; value = c.as_mut_slice.ensures.value ∙ c.self.view_is },
    )
