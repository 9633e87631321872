-- What a line tells is determined by its words.
use Rattle.std.specs.Prelude.{ℕ, ◌≡◌, ◌≢◌, ◌<◌, ◌^◌, List, [], ◌∷◌, map, codes, Option, None, Some, IfSome}
use Rattle.std.specs.Fmt.{decimal}
use Rattle.std.specs.List.{AllByRecursion}
use Rattle.std.proofs.Common.{arith, refl, sym, ap, get_or}
use Rattle.std.proofs.lemmas.Fmt.{decimal_injective}
use Rattle.std.proofs.lemmas.List.Elements.{All-head}
use Rattle.text_in.specs.Numbers.{decimal-lacks}
use Rattle.full_tree.specs.declared.way.Way.{Way}
use Rattle.full_tree.specs.declared.way.Way.TheVariants.{East, North, West, South}
use Rattle.full_tree.specs.declared.code.Tree.{Tree}
use Rattle.full_tree.specs.declared.code.TreeCode.{TreeCode}
use Rattle.full_tree.specs.declared.code.TreeCode.TheVariants.{Long, Cross}
use Rattle.fst_file.specs.Words.{way_word, side_word, code_words, tree_words, FitsCode, IsSpelled}
use Rattle.fst_file.proofs.lemmas.TreeSteps.{same_tree}

-- a place
place_one : (m n : ℕ) → m < 2 ^ 32 → n < 2 ^ 32 → decimal m ≡ decimal n → m ≡ n
place_one m n p q e = decimal_injective m n (omega arith) (omega arith) e

-- a direction, by the code of its letter
letter : List ℕ → ℕ
letter word = get_or word 0 0

way_one : (v w : Way) → way_word v ≡ way_word w → v ≡ w
unfolding letter
way_one East East e = refl
way_one North North e = refl
way_one West West e = refl
way_one South South e = refl
way_one East North e = absurd (omega (arith, ap letter e))
way_one East West e = absurd (omega (arith, ap letter e))
way_one East South e = absurd (omega (arith, ap letter e))
way_one North East e = absurd (omega (arith, ap letter e))
way_one North West e = absurd (omega (arith, ap letter e))
way_one North South e = absurd (omega (arith, ap letter e))
way_one West East e = absurd (omega (arith, ap letter e))
way_one West North e = absurd (omega (arith, ap letter e))
way_one West South e = absurd (omega (arith, ap letter e))
way_one South East e = absurd (omega (arith, ap letter e))
way_one South North e = absurd (omega (arith, ap letter e))
way_one South West e = absurd (omega (arith, ap letter e))

-- a dash is no place
no_dash : (k : ℕ) → k < 2 ^ 32 → codes "-" ≡ decimal k → ⊥
no_dash k fits e =
    let lacks = decimal-lacks k 45 (omega arith) (omega arith) in
    All-head (λ b. b ≢ 45) 45 [] (rw (sym e) at lacks) refl

-- a side
side_one : (q r : Option ℕ) → IfSome q (λ k. k < 2 ^ 32) → IfSome r (λ k. k < 2 ^ 32) → side_word q ≡ side_word r → q ≡ r
side_one None None fq fr e = refl
side_one None (Some k) fq fr e = absurd (no_dash k fr e)
side_one (Some k) None fq fr e = absurd (no_dash k fq (sym e))
side_one (Some k) (Some l) fq fr e = ap Some (place_one k l fq fr e)

-- drops
drops_one : (ds es : List ℕ) → AllByRecursion (λ d. d < 2 ^ 32) ds → AllByRecursion (λ d. d < 2 ^ 32) es → map decimal ds ≡ map decimal es → ds ≡ es
drops_one [] [] fd fe e = refl
drops_one [] (y ∷ es) fd fe e = cc
drops_one (x ∷ ds) [] fd fe e = cc
drops_one (x ∷ ds) (y ∷ es) fd fe e =
    let first : decimal x ≡ decimal y = cc in
    let others : map decimal ds ≡ map decimal es = cc in
    cc (place_one x y fd.0 fe.0 first, drops_one ds es fd.1 fe.1 others)

-- the two kinds
kind_one : codes "long" ≡ codes "cross" → ⊥
unfolding letter
kind_one e = omega (arith, ap letter e)

-- a code
code_one : (a b : TreeCode) → FitsCode a → FitsCode b → code_words a ≡ code_words b → a ≡ b
code_one (Long r w ds q t) (Long r' w' ds' q' t') fa fb e =
    let roots : decimal r ≡ decimal r' = cc in
    let ways : way_word w ≡ way_word w' = cc in
    let tips : decimal t ≡ decimal t' = cc in
    let sides : side_word q ≡ side_word q' = cc in
    let drops : map decimal ds ≡ map decimal ds' = cc in
    cc (place_one r r' fa.0 fb.0 roots, way_one w w' ways, place_one t t' fa.1 fb.1 tips, side_one q q' fa.2 fb.2 sides, drops_one ds ds' fa.3 fb.3 drops)
code_one (Long r w ds q t) (Cross a b c d) fa fb e = absurd (let kinds : codes "long" ≡ codes "cross" = cc in kind_one kinds)
code_one (Cross a b c d) (Long r w ds q t) fa fb e = absurd (let kinds : codes "cross" ≡ codes "long" = cc in kind_one (sym kinds))
code_one (Cross a b c d) (Cross a' b' c' d') fa fb e = grind (arith, place_one)

-- a tree
pub tree_one : (s t : Tree) → IsSpelled s → IsSpelled t → tree_words s ≡ tree_words t → s ≡ t
tree_one s t fs ft same = grind (arith, same_tree, decimal_injective, code_one)
