-- The text of a file is what the writer makes of its pieces.
use Rattle.std.specs.Prelude.{ℕ, ◌≡◌, List, [], ◌∷◌, ◌++◌, length, map, flat_map, codes}
use Rattle.std.specs.Fmt.{decimal}
use Rattle.std.specs.List.{join_with_byte}
use Rattle.std.proofs.Common.{refl, sym, ap, ◌∙◌}
use Rattle.std.proofs.lemmas.List.{append_assoc, append-nil}
use Rattle.std.proofs.lemmas.Grind.{flat_map-append}
use Rattle.points_in.specs.declared.point.Point.{Point}
use Rattle.full_tree.specs.declared.code.Tree.{Tree}
use Rattle.full_tree.specs.declared.code.TreeCode.{TreeCode}
use Rattle.full_tree.specs.declared.code.TreeCode.TheVariants.{Long, Cross}
use Rattle.text_in.specs.Lines.{line_text, text_of}
use Rattle.fst_file.specs.Value.{FstValue}
use Rattle.section_text.specs.Words.{end_words, points_words, point_words}
use Rattle.fst_file.specs.Words.{title_words, trees_words, tree_words, side_word, code_words}
use Rattle.fst_file.specs.Text.{fst_text}
use Rattle.fst_file.specs.Pieces.{places_line, code_line, tree_line}

-- a word with places behind it
joined-places : (word : List ℕ) (ds : List ℕ) → join_with_byte 32 (word ∷ map decimal ds) ≡ word ++ places_line ds
joined-places word [] = sym (append-nil word)
joined-places word (d ∷ ds) = ap (λ rest. word ++ 32 ∷ rest) (joined-places (decimal d) ds)

-- the line of a tree
line_text-tree : (t : Tree) → line_text (tree_words t) ≡ tree_line t
line_text-tree t = of_code t.length t.code
  where
    of_code : (n : ℕ) (code : TreeCode) → join_with_byte 32 (decimal n ∷ code_words code) ++ 10 ∷ [] ≡ decimal n ++ code_line code ++ 10 ∷ []
    of_code n (Long root toward drops side tip) =
        let last = joined-places (side_word side) drops in
        rw last (simp append_assoc)
    of_code n (Cross w s e k) = simp append_assoc

-- the lines of items
lines_of_items : {X : Type 0} (words : X → List (List ℕ)) (line : X → List ℕ) → ((x : X) → line_text (words x) ≡ line x)
    → (xs : List X) → text_of (map words xs) ≡ flat_map line xs
lines_of_items words line same [] = refl
lines_of_items words line same (x ∷ xs) = cc (same x, lines_of_items words line same xs)

-- six pieces in two groups
regroup : (a b d e f g : List ℕ) → a ++ (b ++ (d ++ (e ++ (f ++ g)))) ≡ (a ++ b ++ d) ++ (e ++ f ++ g)
regroup a b d e f g = simp append_assoc

-- the text of the lines behind the points' count
behind_count : (ps : List Point) (ts : List Tree) (count : List (List ℕ)) →
    text_of (map point_words ps ++ (count ∷ map tree_words ts ++ end_words ∷ []))
    ≡ flat_map (λ p. line_text (point_words p)) ps ++ (line_text count ++ (flat_map tree_line ts ++ codes "end\n"))
behind_count ps ts count =
    let points : text_of (map point_words ps) ≡ flat_map (λ p. line_text (point_words p)) ps =
    lines_of_items point_words (λ p. line_text (point_words p)) (λ p. refl) ps in
    let trees : text_of (map tree_words ts) ≡ flat_map tree_line ts = lines_of_items tree_words tree_line line_text-tree ts in
    let apart = flat_map-append line_text (map point_words ps) (count ∷ map tree_words ts ++ end_words ∷ []) in
    let end = flat_map-append line_text (map tree_words ts) (end_words ∷ []) in
    apart ∙ ap (λ t. t ++ (line_text count ++ text_of (map tree_words ts ++ end_words ∷ []))) points
    ∙ ap (λ t. flat_map (λ p. line_text (point_words p)) ps ++ (line_text count ++ t))
    (end ∙ ap (λ t. t ++ codes "end\n") trees)

-- the whole text
pub fst_text-pieces : (v : FstValue) → fst_text v ≡
    (line_text title_words ++ line_text (points_words (length v.points)) ++ flat_map (λ p. line_text (point_words p)) v.points)
    ++ (line_text (trees_words (length v.trees)) ++ flat_map tree_line v.trees ++ codes "end\n")
fst_text-pieces v =
    ap (λ t. line_text title_words ++ (line_text (points_words (length v.points)) ++ t)) (behind_count v.points v.trees (trees_words (length v.trees)))
    ∙ regroup (line_text title_words) (line_text (points_words (length v.points))) (flat_map (λ p. line_text (point_words p)) v.points)
    (line_text (trees_words (length v.trees))) (flat_map tree_line v.trees) (codes "end\n")
