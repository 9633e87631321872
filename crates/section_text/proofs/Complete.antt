-- Bytes that spell a value come to it.
use Rattle.std.specs.Prelude.{ℕ, zero, suc, ◌≡◌, ◌+◌, ◌<◌, ◌≤◌, ◌⊎◌, List, [], ◌∷◌, ◌++◌, length, map, All, Contains, Result, Ok, Err}
use Rattle.std.proofs.Common.{arith, refl, sym, ap, ◌∙◌, subst, inl, inr}
use Rattle.std.proofs.lemmas.List.{append_assoc, append-nil, length-append}
use Rattle.std.proofs.Math.ListN.{get_or-append}
use Rattle.std.proofs.Math.Seq.{get_or-append_seam}
use Rattle.points_in.specs.declared.point.Point.{Point}
use Rattle.points_in.specs.Text.{IsPoint}
use Rattle.points_in.specs.Terminals.{AreDistinct}
use Rattle.text_in.specs.Lines.{empty_line}
use Rattle.section_text.specs.declared.fault.LineFault.TheVariants.{BadLine}
use Rattle.section_text.specs.Words.{end_words, points_words, count_words, point_words}
use Rattle.section_text.specs.Format.{Format, IsLawful}
use Rattle.section_text.specs.Text.{section_lines, AreSections}
use Rattle.section_text.specs.Faults.{Told, nothing, title, points, items, ended, Passes}
use Rattle.section_text.specs.Judged.{Judges}
use Rattle.section_text.proofs.Steps.{judges_pass}

-- a list with a further one behind it isn't empty
some_lines : (a b : List (List (List ℕ))) → 0 < length b → 0 < length (a ++ b)
some_lines a b some = omega (arith, length-append a b)

-- of distinct points none stands before itself
new_point : (told rest : List Point) (p : Point) → AreDistinct (told ++ p ∷ rest) → ¬ Contains told p
new_point told rest p distinct (k, within, is) =
    grind (arith, length-append told (p ∷ rest), get_or-append told (p ∷ rest) p k within, get_or-append_seam told p rest p)

-- and each is a point
is_point : (told rest : List Point) (p : Point) → All IsPoint (told ++ p ∷ rest) → IsPoint p
is_point told rest p all =
    subst IsPoint (get_or-append_seam told p rest p) (all (length told) p (omega (arith, length-append told (p ∷ rest))))

no_rest : (rest : List Point) → length rest ≡ 0 → rest ≡ []
no_rest [] none = refl
no_rest (r ∷ rest) none = absurd (omega arith)

module _ {X F V : Type 0} (fm : Format X F V) (lawful : IsLawful fm) where
  -- these lines come to an outcome of such a kind, whatever their number
  abbrev pub Comes : (Result V F → Type 0) → Told X → List (List (List ℕ)) → Type 0
  Comes P t ls = (n : ℕ) → (o : Result V F) × Judges fm t n ls o × P o

  -- what stands behind the end decides
  pub behind_end : (ps : List Point) (xs : List X) (ls : List (List (List ℕ))) → fm.IsWhole ps xs → 0 < length ls
      → Comes (λ o. ((ls ≡ empty_line ∷ []) × (o ≡ Ok (fm.value_of ps xs))) ⊎ ((f : F) × (o ≡ Err f))) (ended ps xs) ls
  behind_end ps xs [] whole some = absurd (omega arith)
  behind_end ps xs (([] ∷ []) ∷ []) whole some = λ n. (Ok (fm.value_of ps xs), inl (refl, inl (whole, refl)), inl (refl, refl))
  behind_end ps xs ([] ∷ []) whole some = λ n. (Err (fm.fault_of (BadLine n)), inr (λ e. cc, refl), inr (fm.fault_of (BadLine n), refl))
  behind_end ps xs (((b ∷ word) ∷ words) ∷ []) whole some = λ n. (Err (fm.fault_of (BadLine n)), inr (λ e. cc, refl), inr (fm.fault_of (BadLine n), refl))
  behind_end ps xs (([] ∷ w ∷ words) ∷ []) whole some = λ n. (Err (fm.fault_of (BadLine n)), inr (λ e. cc, refl), inr (fm.fault_of (BadLine n), refl))
  behind_end ps xs (l ∷ m ∷ ls) whole some = λ n. (Err (fm.fault_of (BadLine n)), inl (fm.fault_of (BadLine n), refl, refl), inr (fm.fault_of (BadLine n), refl))

  module _ (P : Result V F → Type 0) where
    -- one line that passes
    comes_pass : (t t' : Told X) (words : List (List ℕ)) (ls : List (List (List ℕ))) → 0 < length ls
        → Passes fm t words t' → Comes P t' ls → Comes P t (words ∷ ls)
    comes_pass t t' words ls more passes come = λ n.
        let rest = come (n + 1) in
        (rest.0, judges_pass fm t t' n words ls rest.0 more passes rest.1, rest.2)

    -- the lines of points
    points_come : (rest told all : List Point) (tail : List (List (List ℕ))) → 0 < length tail
        → all ≡ told ++ rest → AreDistinct all → All IsPoint all → fm.PointsFit all → Comes P (points zero all) tail
        → Comes P (points (length rest) told) (map point_words rest ++ tail)
    points_come [] told all tail more is distinct are fit come =
        let same : all ≡ told = is ∙ append-nil told in
        subst (λ ps. Comes P (points zero ps) tail) same come
    points_come (p ∷ rest) told all tail more is distinct are fit come =
        let next : all ≡ (told ++ p ∷ []) ++ rest = is ∙ sym (append_assoc told (p ∷ []) rest) in
        comes_pass (points (suc (length rest)) told) (points (length rest) (told ++ p ∷ [])) (point_words p) (map point_words rest ++ tail)
        (some_lines (map point_words rest) tail more) (
          p,
          record { fits = is_point told rest p (subst (All IsPoint) is are); words_are = refl },
          new_point told rest p (subst AreDistinct is distinct),
          λ last. subst fm.PointsFit (next ∙ ap (λ r. (told ++ p ∷ []) ++ r) (no_rest rest last) ∙ append-nil (told ++ p ∷ [])) fit,
          refl,
        )
        (points_come rest (told ++ p ∷ []) all tail more next distinct are fit come)

    -- the lines of items
    items_come : (ps : List Point) (rest told all : List X) (tail : List (List (List ℕ))) → 0 < length tail
        → length ps ≤ 50 → all ≡ told ++ rest → fm.AreItems ps all → Comes P (items ps zero all) tail
        → Comes P (items ps (length rest) told) (map fm.item_words rest ++ tail)
    items_come ps [] told all tail more few is right come =
        let same : all ≡ told = is ∙ append-nil told in
        subst (λ xs. Comes P (items ps zero xs) tail) same come
    items_come ps (x ∷ rest) told all tail more few is right come =
        let next : all ≡ (told ++ x ∷ []) ++ rest = is ∙ sym (append_assoc told (x ∷ []) rest) in
        let follows = lawful.next ps told rest x (subst (fm.AreItems ps) is right) in
        comes_pass (items ps (suc (length rest)) told) (items ps (length rest) (told ++ x ∷ [])) (fm.item_words x) (map fm.item_words rest ++ tail)
        (some_lines (map fm.item_words rest) tail more)
        (x, record { fits = lawful.spelled ps told x few follows; words_are = refl }, follows, refl)
        (items_come ps rest (told ++ x ∷ []) all tail more few next right come)

    -- the lines of points and items, with some behind them
    lines_before : (ps : List Point) (xs : List X) (tail : List (List (List ℕ))) → section_lines fm ps xs ++ tail
        ≡ fm.title ∷ points_words (length ps) ∷ (map point_words ps ++ (count_words fm.kind (length xs) ∷ (map fm.item_words xs ++ (end_words ∷ tail))))
    lines_before ps xs tail =
        ap (λ l. fm.title ∷ points_words (length ps) ∷ l)
        (append_assoc (map point_words ps) (count_words fm.kind (length xs) ∷ map fm.item_words xs ++ end_words ∷ []) tail
        ∙ ap (λ l. map point_words ps ++ (count_words fm.kind (length xs) ∷ l)) (append_assoc (map fm.item_words xs) (end_words ∷ []) tail))

    -- they lead to the end
    pub sections_come : (ps : List Point) (xs : List X) (tail : List (List (List ℕ))) → 0 < length tail → AreSections fm ps xs
        → Comes P (ended ps xs) tail → Comes P nothing (section_lines fm ps xs ++ tail)
    sections_come ps xs tail more are come =
        let some = are.points.some in
        let few = are.points.few in
        let few_items = are.few in
        let limit = lawful.few in
        let last = comes_pass (items ps zero xs) (ended ps xs) end_words tail more (refl, refl) come in
        let items_told = map fm.item_words xs ++ (end_words ∷ tail) in
        let listed = items_come ps xs [] xs (end_words ∷ tail) (omega arith) few refl are.items last in
        let counted = comes_pass (points zero ps) (items ps (length xs) []) (count_words fm.kind (length xs)) items_told
        (some_lines (map fm.item_words xs) (end_words ∷ tail) (omega arith))
        (length xs, record { fits = omega arith; words_are = refl }, few_items, refl) listed in
        let behind = count_words fm.kind (length xs) ∷ items_told in
        let pointed = points_come ps [] ps behind (omega arith) refl are.points.distinct are.points.points are.fit counted in
        let begun = comes_pass title (points (length ps) []) (points_words (length ps)) (map point_words ps ++ behind)
        (some_lines (map point_words ps) behind (omega arith))
        (length ps, record { fits = omega arith; words_are = refl }, some, few, refl) pointed in
        let whole = comes_pass nothing title fm.title (points_words (length ps) ∷ (map point_words ps ++ behind)) (omega arith) (refl, refl) begun in
        subst (Comes P nothing) (sym (lines_before ps xs tail)) whole
