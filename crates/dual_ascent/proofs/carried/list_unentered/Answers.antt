use Rattle.std.proofs.Common.{◌≡◌, ◌∙◌, ◌+◌, Bool, true, false, not, cond, List, [], ◌∷◌, ◌++◌, filter, take, ap, sym, refl, append-nil}
use Rattle.std.specs.List.{list_any}
use Rattle.std.proofs.lemmas.List.Elements.{filter_more}
use Rattle.net_graph.specs.declared.packing.Cut.{Cut}
use Rattle.dual_ascent.specs.Carried.{is_entered_along}
use Rattle.dual_ascent.proofs.carried.list_unentered.Goals as goal
use Rattle.dual_ascent.proofs.carried.list_unentered.Goals.{then-not-is_entered+in_ok-copy+in_ok-push, else-not-is_entered}

pub loop-cut-preserved : goal.loop-cut-preserved
loop-cut-preserved c =
    let cuts = c.args.cuts.now in
    let i = c.loop-cut.cut-index in
    let cut : Cut = c.cut-item.result in
    let test : Cut → Bool = λ x. not (list_any (is_entered_along x.members) c.args.edges.now) in
    let tail : Cut → List Cut = λ x. cond (test x) (x ∷ []) [] in
    let more : filter test (take (i + 1) cuts) ≡ filter test (take i cuts) ++ tail cut = filter_more test cuts i cut c.loop-cut-test.true ∙ ap (λ x. filter test (take i cuts) ++ tail x) (sym c.cut-item.is) in
    elim c.if-not-is_entered.branch [
      | then-not-is_entered+in_ok-copy+in_ok-push w ↦
          let passes : test cut ≡ true = ap not (sym c.is_entered.ensures ∙ w.if-not-is_entered.true) in
          let last : tail cut ≡ cut ∷ [] = rw passes refl in
          w.kept-is ∙ w.in_ok-push.ensures.ok ∙ ap (λ x. c.loop-cut.kept ++ x ∷ []) w.in_ok-copy.ensures ∙ ap (λ xs. xs ++ cut ∷ []) c.loop-cut.invariant
          ∙ ap (λ xs. filter test (take i cuts) ++ xs) (sym last) ∙ sym more
      | else-not-is_entered w ↦
          let fails : test cut ≡ false = ap not (sym c.is_entered.ensures ∙ w.if-not-is_entered.false) in
          let last : tail cut ≡ [] = rw fails refl in
          w.kept-is ∙ c.loop-cut.invariant ∙ sym (append-nil (filter test (take i cuts))) ∙ ap (λ xs. filter test (take i cuts) ++ xs) (sym last) ∙ sym more
    ]
