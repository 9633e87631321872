-- A text comes to one outcome.
use Rattle.std.specs.Prelude.{ℕ, zero, suc, ◌≡◌, ◌+◌, List, [], ◌∷◌, ◌++◌, codes, Contains, Result, Err}
use Rattle.std.specs.Fmt.{signed_decimal}
use Rattle.std.proofs.Common.{arith, sym, ap, ◌∙◌, subst, inl, inr}
use Rattle.std.proofs.lemmas.Fmt.{decimal_injective}
use Rattle.text_in.specs.Numbers.{signed_decimal_one}
use Rattle.points_in.specs.declared.point.Point.{Point}
use Rattle.points_in.specs.PointLaws.{same_coordinates}
use Rattle.section_text.specs.Words.{point_words}
use Rattle.section_text.specs.Format.{Format, IsLawful}
use Rattle.section_text.specs.Faults.{Told, nothing, title, points, items, ended, Passes, Fails, SpellsPoint, SpellsCount, SpellsItem}
use Rattle.section_text.specs.Judged.{Judges, JudgesWhole, Ends}

-- a point
point_one : (words : List (List ℕ)) (p q : Point) → SpellsPoint words p → SpellsPoint words q → p ≡ q
point_one words p q sp sq =
    let same : point_words p ≡ point_words q = sym sp.words_are ∙ sq.words_are in
    let x : signed_decimal p.x ≡ signed_decimal q.x = cc in
    let y : signed_decimal p.y ≡ signed_decimal q.y = cc in
    same_coordinates p q (signed_decimal_one p.x q.x sp.fits.x sq.fits.x x) (signed_decimal_one p.y q.y sp.fits.y sq.fits.y y)

-- a count
count_one : (kind : List ℕ) (words : List (List ℕ)) (m n : ℕ) → SpellsCount kind words m → SpellsCount kind words n → m ≡ n
count_one kind words m n sm sn = grind (arith, decimal_injective)

module _ {X F V : Type 0} (fm : Format X F V) (lawful : IsLawful fm) where
  -- an item
  item_one : (words : List (List ℕ)) (x y : X) → SpellsItem fm words x → SpellsItem fm words y → x ≡ y
  item_one words x y sx sy = lawful.one_item x y sx.fits sy.fits (sym sx.words_are ∙ sy.words_are)

  -- one thing is told with a line that passes
  passes_one : (t a b : Told X) (words : List (List ℕ)) → Passes fm t words a → Passes fm t words b → a ≡ b
  passes_one nothing a b words (e, f) (e', f') = f ∙ sym f'
  passes_one title a b words (m, sm, lm, hm, f) (n, sn, ln, hn, f') = cc (count_one (codes "points") words m n sm sn)
  passes_one (points zero ps) a b words (m, sm, hm, f) (n, sn, hn, f') = cc (count_one fm.kind words m n sm sn)
  passes_one (points (suc due) ps) a b words (p, sp, np, gp, f) (q, sq, nq, gq, f') = cc (point_one words p q sp sq)
  passes_one (items ps zero xs) a b words (e, f) (e', f') = f ∙ sym f'
  passes_one (items ps (suc due) xs) a b words (x, sx, fx, f) (y, sy, fy, f') = cc (item_one words x y sx sy)
  passes_one (ended ps xs) a b words p q = absurd p

  -- a line that passes doesn't fail
  not_both : (t a : Told X) (n : ℕ) (words : List (List ℕ)) (f : F) → Passes fm t words a → Fails fm t n words f → ⊥
  not_both nothing a n words f (e, is) (other, g) = other e
  not_both title a n words f (m, sm, lm, hm, is) (inl (none, g)) = none m sm
  not_both title a n words f (m, sm, lm, hm, is) (inr (inl (k, sk, zk, g))) = omega (arith, count_one (codes "points") words m k sm sk)
  not_both title a n words f (m, sm, lm, hm, is) (inr (inr (k, sk, zk, g))) = omega (arith, count_one (codes "points") words m k sm sk)
  not_both (points zero ps) a n words f (m, sm, hm, is) (inl (none, g)) = none m sm
  not_both (points zero ps) a n words f (m, sm, hm, is) (inr (k, sk, zk, g)) = omega (arith, count_one fm.kind words m k sm sk)
  not_both (points (suc due) ps) a n words f (p, sp, new, fit, is) (inl (none, g)) = none p sp
  not_both (points (suc due) ps) a n words f (p, sp, new, fit, is) (inr (inl (q, sq, held, g))) =
      new (subst (Contains ps) (point_one words q p sq sp) held)
  not_both (points (suc due) ps) a n words f (p, sp, new, fit, is) (inr (inr (q, sq, other, last, wrong))) =
      grind (arith, lawful.points (ps ++ p ∷ []), fit last, point_one words q p sq sp)
  not_both (items ps zero xs) a n words f (e, is) (other, g) = other e
  not_both (items ps (suc due) xs) a n words f (x, sx, follows, is) (inl (none, g)) = none x sx
  not_both (items ps (suc due) xs) a n words f (x, sx, follows, is) (inr (y, sy, wrong)) =
      (lawful.item ps xs n x).none follows f (subst (λ z. fm.IsItemFault ps xs n z f) (item_one words y x sy sx) wrong)
  not_both (ended ps xs) a n words f passes g = passes

  -- a line that fails has one fault
  fails_one : (t : Told X) (n : ℕ) (words : List (List ℕ)) (f g : F) → Fails fm t n words f → Fails fm t n words g → f ≡ g
  fails_one nothing n words f g (x, e) (y, e') = e ∙ sym e'
  fails_one title n words f g (inl (none, e)) (inl (none', e')) = e ∙ sym e'
  fails_one title n words f g (inl (none, e)) (inr (inl (k, sk, zk, e'))) = absurd (none k sk)
  fails_one title n words f g (inl (none, e)) (inr (inr (k, sk, zk, e'))) = absurd (none k sk)
  fails_one title n words f g (inr (inl (k, sk, zk, e))) (inl (none, e')) = absurd (none k sk)
  fails_one title n words f g (inr (inl (k, sk, zk, e))) (inr (inl (l, sl, zl, e'))) = e ∙ sym e'
  fails_one title n words f g (inr (inl (k, sk, zk, e))) (inr (inr (l, sl, zl, e'))) = absurd (omega (arith, count_one (codes "points") words k l sk sl))
  fails_one title n words f g (inr (inr (k, sk, zk, e))) (inl (none, e')) = absurd (none k sk)
  fails_one title n words f g (inr (inr (k, sk, zk, e))) (inr (inl (l, sl, zl, e'))) = absurd (omega (arith, count_one (codes "points") words k l sk sl))
  fails_one title n words f g (inr (inr (k, sk, zk, e))) (inr (inr (l, sl, zl, e'))) = e ∙ sym e'
  fails_one (points zero ps) n words f g (inl (none, e)) (inl (none', e')) = e ∙ sym e'
  fails_one (points zero ps) n words f g (inl (none, e)) (inr (k, sk, zk, e')) = absurd (none k sk)
  fails_one (points zero ps) n words f g (inr (k, sk, zk, e)) (inl (none, e')) = absurd (none k sk)
  fails_one (points zero ps) n words f g (inr (k, sk, zk, e)) (inr (l, sl, zl, e')) = e ∙ sym e'
  fails_one (points (suc due) ps) n words f g (inl (none, e)) (inl (none', e')) = e ∙ sym e'
  fails_one (points (suc due) ps) n words f g (inl (none, e)) (inr (inl (p, sp, held, e'))) = absurd (none p sp)
  fails_one (points (suc due) ps) n words f g (inl (none, e)) (inr (inr (p, sp, new, last, wrong))) = absurd (none p sp)
  fails_one (points (suc due) ps) n words f g (inr (inl (p, sp, held, e))) (inl (none, e')) = absurd (none p sp)
  fails_one (points (suc due) ps) n words f g (inr (inl (p, sp, held, e))) (inr (inl (q, sq, held', e'))) = e ∙ sym e'
  fails_one (points (suc due) ps) n words f g (inr (inl (p, sp, held, e))) (inr (inr (q, sq, new, last, wrong))) =
      absurd (new (subst (Contains ps) (point_one words p q sp sq) held))
  fails_one (points (suc due) ps) n words f g (inr (inr (p, sp, new, last, wrong))) (inl (none, e')) = absurd (none p sp)
  fails_one (points (suc due) ps) n words f g (inr (inr (p, sp, new, last, wrong))) (inr (inl (q, sq, held, e'))) =
      absurd (new (subst (Contains ps) (point_one words q p sq sp) held))
  fails_one (points (suc due) ps) n words f g (inr (inr (p, sp, new, last, wrong))) (inr (inr (q, sq, new', last', wrong'))) =
      (lawful.points (ps ++ q ∷ [])).one f g (subst (λ r. fm.IsPointsFault (ps ++ r ∷ []) f) (point_one words p q sp sq) wrong) wrong'
  fails_one (items ps zero xs) n words f g (x, e) (y, e') = e ∙ sym e'
  fails_one (items ps (suc due) xs) n words f g (inl (none, e)) (inl (none', e')) = e ∙ sym e'
  fails_one (items ps (suc due) xs) n words f g (inl (none, e)) (inr (x, sx, wrong)) = absurd (none x sx)
  fails_one (items ps (suc due) xs) n words f g (inr (x, sx, wrong)) (inl (none, e)) = absurd (none x sx)
  fails_one (items ps (suc due) xs) n words f g (inr (x, sx, wrong)) (inr (y, sy, wrong')) =
      (lawful.item ps xs n y).one f g (subst (λ z. fm.IsItemFault ps xs n z f) (item_one words x y sx sy) wrong) wrong'
  fails_one (ended ps xs) n words f g e e' = e ∙ sym e'

  -- a whole comes to one outcome
  whole_one : (ps : List Point) (xs : List X) (o o' : Result V F) → JudgesWhole fm ps xs o → JudgesWhole fm ps xs o' → o ≡ o'
  whole_one ps xs o o' (inl (is, e)) (inl (is', e')) = e ∙ sym e'
  whole_one ps xs o o' (inl (is, e)) (inr (f, wrong, e')) = absurd ((lawful.whole ps xs).none is f wrong)
  whole_one ps xs o o' (inr (f, wrong, e)) (inl (is, e')) = absurd ((lawful.whole ps xs).none is f wrong)
  whole_one ps xs o o' (inr (f, wrong, e)) (inr (g, wrong', e')) = e ∙ ap Err ((lawful.whole ps xs).one f g wrong wrong') ∙ sym e'

  -- so does the end
  ends_one : (t : Told X) (n : ℕ) (last : List (List ℕ)) (o o' : Result V F) → Ends fm t n last o → Ends fm t n last o' → o ≡ o'
  ends_one nothing n last o o' e e' = e ∙ sym e'
  ends_one title n last o o' e e' = e ∙ sym e'
  ends_one (points due ps) n last o o' e e' = e ∙ sym e'
  ends_one (items ps due xs) n last o o' e e' = e ∙ sym e'
  ends_one (ended ps xs) n last o o' (inl (x, j)) (inl (y, j')) = whole_one ps xs o o' j j'
  ends_one (ended ps xs) n last o o' (inl (x, j)) (inr (other, e')) = absurd (other x)
  ends_one (ended ps xs) n last o o' (inr (other, e)) (inl (y, j')) = absurd (other y)
  ends_one (ended ps xs) n last o o' (inr (other, e)) (inr (other', e')) = e ∙ sym e'

  -- and what is left of a text
  pub judges_one : (t : Told X) (n : ℕ) (ls : List (List (List ℕ))) (o o' : Result V F) → Judges fm t n ls o → Judges fm t n ls o' → o ≡ o'
  judges_one t n [] o o' j j' = absurd j
  judges_one t n (last ∷ []) o o' j j' = ends_one t n last o o' j j'
  judges_one t n (words ∷ next ∷ more) o o' (inl (f, fails, e)) (inl (g, fails', e')) = e ∙ ap Err (fails_one t n words f g fails fails') ∙ sym e'
  judges_one t n (words ∷ next ∷ more) o o' (inl (f, fails, e)) (inr (u, passes, j)) = absurd (not_both t u n words f passes fails)
  judges_one t n (words ∷ next ∷ more) o o' (inr (u, passes, j)) (inl (f, fails, e)) = absurd (not_both t u n words f passes fails)
  judges_one t n (words ∷ next ∷ more) o o' (inr (u, passes, j)) (inr (v, passes', j')) =
      judges_one v (n + 1) (next ∷ more) o o' (subst (λ s. Judges fm s (n + 1) (next ∷ more) o) (passes_one t u v words passes passes') j) j'
