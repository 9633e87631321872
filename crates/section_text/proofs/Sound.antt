-- Bytes that come to a value spell it.
use Rattle.std.specs.Prelude.{ℕ, zero, suc, ◌≡◌, ◌≢◌, ◌+◌, ◌<◌, ◌≤◌, List, [], ◌∷◌, ◌++◌, length, map, All, Contains, Ok}
use Rattle.std.proofs.Common.{arith, refl, sym, ap, ◌∙◌, subst, inl, inr}
use Rattle.std.proofs.lemmas.List.{append_assoc, length_push, map-append, get_or_default}
use Rattle.std.proofs.lemmas.List.Elements.{All-nil, All-push}
use Rattle.std.proofs.lemmas.List.Quantifiers.{all_pairs_push}
use Rattle.points_in.specs.declared.point.Point.{Point}
use Rattle.points_in.specs.Text.{IsPoint}
use Rattle.points_in.specs.Terminals.{AreDistinct}
use Rattle.points_in.specs.Points.{ArePoints}
use Rattle.text_in.specs.Lines.{empty_line}
use Rattle.section_text.specs.Words.{end_words, points_words, count_words, point_words}
use Rattle.section_text.specs.Format.{Format, IsLawful}
use Rattle.section_text.specs.Text.{section_lines, AreSections}
use Rattle.section_text.specs.Faults.{Told, nothing, title, points, items, ended, Passes}
use Rattle.section_text.specs.Judged.{Judges, Ends}

-- one more point among distinct ones
distinct_push : (ps : List Point) (p : Point) → AreDistinct ps → ¬ Contains ps p → AreDistinct (ps ++ p ∷ [])
distinct_push ps p distinct new =
    all_pairs_push (λ q r. q ≢ r) ps p distinct (λ k d within same. new (k, within, get_or_default ps k p d within ∙ same))

-- points and items that are right, as far as they go
pub record PointsRight {X F V : Type 0} (fm : Format X F V) (due : ℕ) (ps : List Point) : Type 0 where
  pub some : 0 < length ps + due
  pub few : length ps + due ≤ 50
  pub distinct : AreDistinct ps
  pub are : All IsPoint ps
  pub fit : due ≡ 0 → fm.PointsFit ps

pub record ItemsRight {X F V : Type 0} (fm : Format X F V) (ps : List Point) (due : ℕ) (xs : List X) : Type 0 where
  pub are : ArePoints ps
  pub fit : fm.PointsFit ps
  pub few : length xs + due ≤ fm.most
  pub right : fm.AreItems ps xs

module _ {X F V : Type 0} (fm : Format X F V) (lawful : IsLawful fm) where
  -- what was told is right
  abbrev pub IsRight : Told X → Type 0
  IsRight nothing = Unit {0}
  IsRight title = Unit {0}
  IsRight (points due ps) = PointsRight fm due ps
  IsRight (items ps due xs) = ItemsRight fm ps due xs
  IsRight (ended ps xs) = ItemsRight fm ps 0 xs

  -- the lines that told it
  abbrev head_lines : ℕ → List Point → List (List (List ℕ))
  head_lines count ps = fm.title ∷ points_words count ∷ map point_words ps

  abbrev item_lines : List Point → ℕ → List X → List (List (List ℕ))
  item_lines ps count xs = head_lines (length ps) ps ++ (count_words fm.kind count ∷ map fm.item_words xs)

  abbrev pub lines_told : Told X → List (List (List ℕ))
  lines_told nothing = []
  lines_told title = fm.title ∷ []
  lines_told (points due ps) = head_lines (length ps + due) ps
  lines_told (items ps due xs) = item_lines ps (length xs + due) xs
  lines_told (ended ps xs) = section_lines fm ps xs

  -- one more line
  abbrev Tells : Told X → List (List ℕ) → Told X → Type 0
  Tells t words t' = IsRight t' × (lines_told t' ≡ lines_told t ++ words ∷ [])

  tells : (t t' : Told X) (words : List (List ℕ)) → IsRight t → Passes fm t words t' → Tells t words t'
  tells nothing t' words right (e, is) = subst (Tells nothing words) (sym is) (tt, ap (λ w. w ∷ []) (sym e))
  tells title t' words right (count, spells, some, few, is) = subst (Tells title words) (sym is) (
    record { some = omega arith; few = omega arith; distinct = λ i j d before within. absurd (omega arith); are = All-nil IsPoint; fit = λ none. absurd (omega arith) },
    ap (λ n. fm.title ∷ points_words n ∷ []) (omega arith) ∙ ap (λ w. fm.title ∷ w ∷ []) (sym spells.words_are),
  )
  tells (points zero ps) t' words right (count, spells, few, is) = subst (Tells (points zero ps) words) (sym is) (
    record {
      are = record { some = let some = right.some in omega arith; few = let few = right.few in omega arith; distinct = right.distinct; points = right.are };
      fit = right.fit refl;
      few = omega arith;
      right = lawful.none ps;
    },
    let counted : length ps ≡ length ps + 0 = omega arith in
        ap (λ n. head_lines n ps ++ (count_words fm.kind (0 + count) ∷ [])) counted
        ∙ ap (λ w. head_lines (length ps + 0) ps ++ w ∷ []) (ap (count_words fm.kind) (omega arith) ∙ sym spells.words_are),
  )
  tells (points (suc due) ps) t' words right (p, spells, new, fit, is) = subst (Tells (points (suc due) ps) words) (sym is) (
    record {
      some = let some = right.some in omega (arith, length_push ps p);
      few = let few = right.few in omega (arith, length_push ps p);
      distinct = distinct_push ps p right.distinct new;
      are = All-push IsPoint ps p right.are spells.fits;
      fit = fit;
    },
    (grind (arith, length_push ps p, map-append point_words ps (p ∷ []))) ∙ ap (λ w. head_lines (length ps + suc due) ps ++ w ∷ []) (sym spells.words_are),
  )
  tells (items ps zero xs) t' words right (e, is) = subst (Tells (items ps zero xs) words) (sym is) (
    right,
    let counted : length xs ≡ length xs + 0 = omega arith in
        sym (append_assoc (head_lines (length ps) ps) (count_words fm.kind (length xs) ∷ map fm.item_words xs) (end_words ∷ []))
        ∙ ap (λ n. item_lines ps n xs ++ end_words ∷ []) counted ∙ ap (λ w. item_lines ps (length xs + 0) xs ++ w ∷ []) (sym e),
  )
  tells (items ps (suc due) xs) t' words right (x, spells, follows, is) = subst (Tells (items ps (suc due) xs) words) (sym is) (
    record {
      are = right.are;
      fit = right.fit;
      few = let few = right.few in omega (arith, length_push xs x);
      right = lawful.push ps xs x right.right follows;
    },
    (grind (arith, length_push xs x, map-append fm.item_words xs (x ∷ []), append_assoc (head_lines (length ps) ps) (count_words fm.kind (length xs + suc due) ∷ map fm.item_words xs) (fm.item_words x ∷ []), fm.item_words x)) ∙ ap (λ w. item_lines ps (length xs + suc due) xs ++ w ∷ []) (sym spells.words_are),
  )
  tells (ended ps xs) t' words right passes = absurd passes

  -- a value of points and items whose lines these are
  pub record Comes (ls : List (List (List ℕ))) (v : V) : Type 0 where
    pub ps : List Point
    pub xs : List X
    pub are : AreSections fm ps xs
    pub value : v ≡ fm.value_of ps xs
    pub lines : ls ≡ section_lines fm ps xs ++ empty_line ∷ []

  -- the end of a text that comes to a value
  ends_told : (t : Told X) (n : ℕ) (last : List (List ℕ)) (v : V) → IsRight t → Ends fm t n last (Ok v) → Comes (lines_told t ++ last ∷ []) v
  ends_told nothing n last v right e = cc
  ends_told title n last v right e = cc
  ends_told (points due ps) n last v right e = cc
  ends_told (items ps due xs) n last v right e = cc
  ends_told (ended ps xs) n last v right (inl (empty, inl (whole, e))) = grind arith
  ends_told (ended ps xs) n last v right (inl (empty, inr (f, wrong, e))) = cc
  ends_told (ended ps xs) n last v right (inr (other, e)) = cc

  -- the lines of a text that comes to a value
  pub judged_lines : (t : Told X) (n : ℕ) (ls : List (List (List ℕ))) (v : V) → IsRight t → Judges fm t n ls (Ok v) → Comes (lines_told t ++ ls) v
  judged_lines t n [] v right j = absurd j
  judged_lines t n (last ∷ []) v right j = ends_told t n last v right j
  judged_lines t n (words ∷ next ∷ more) v right (inl (f, fails, e)) = cc
  judged_lines t n (words ∷ next ∷ more) v right (inr (t', passes, j)) =
      let told = tells t t' words right passes in
      subst (λ ls. Comes ls v) (ap (λ l. l ++ (next ∷ more)) told.1 ∙ append_assoc (lines_told t) (words ∷ []) (next ∷ more))
      (judged_lines t' (n + 1) (next ∷ more) v told.0 j)
