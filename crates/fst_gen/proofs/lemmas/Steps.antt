-- The steps of a generation, one kind of codes after another.
use Rattle.std.proofs.Common.{ℕ, ◌≡◌, ◌+◌, ◌<◌, ◌≤◌, List, [], ◌∷◌, ◌++◌, length, refl, ap, sym, subst, ◌∙◌, arith, inl, inr, ⊎_elim, length-append}
use Rattle.std.specs.Prelude.{◌⊎◌, Option, None, Some, Result, option_to_list, ◌<ℤ◌}
use Rattle.std.specs.BTreeMap.{BTreeMap}
use Rattle.std.proofs.lemmas.Bool.{cases_eq}
use Rattle.std.proofs.lemmas.List.{append_assoc, append-nil}
use Rattle.std.proofs.lemmas.List.Elements.{All-head}
use Rattle.lists.specs.ListLaws.{All-second}
use Rattle.points_in.specs.declared.point.Point.{Point}
use Rattle.hanan_grid.specs.Distance.{distance_between}
use Rattle.spanning.specs.Bottleneck.{IsBottleneck}
use Rattle.full_tree.specs.declared.way.Way.{Way}
use Rattle.full_tree.specs.declared.way.Way.TheVariants.{East, North, West, South}
use Rattle.full_tree.specs.declared.code.Tree.{Tree}
use Rattle.full_tree.specs.declared.code.TreeCode.{TreeCode}
use Rattle.full_tree.specs.declared.code.TreeCode.TheVariants.{Long, Cross}
use Rattle.full_tree.specs.MembersLaws.{length-ascending_places}
use Rattle.full_tree.specs.Geometry.{point_at}
use Rattle.full_tree.specs.LongLaws.{NamesFew, long_names_few}
use Rattle.full_tree.specs.Pieces.{foot}
use Rattle.full_tree.specs.Passing.{IsWithinBottleneck}
use Rattle.fst_gen.specs.declared.fault.GenFault.{GenFault}
use Rattle.fst_gen.specs.declared.prefix.Prefix.{Prefix}
use Rattle.fst_gen.specs.Trees.{IsWanted}
use Rattle.fst_gen.specs.Store.{IsStore, Stores, Generates}
use Rattle.fst_gen.proofs.lemmas.Stores.{Stores-none, Stores-then, Stores-only, Generates-then}
use Rattle.fst_gen.specs.Prefix.{IsPrefix, HasPrefix, EndsAt, EndsBelow, IsHung, HangsBelow, ContinuesBelow, MayFollow, MayEndAt, last_member}
use Rattle.fst_gen.proofs.lemmas.Prefixes.{MayFollow-from_passing, near_from_passing}
use Rattle.fst_gen.specs.Kinds.{GrownBelow, IsRootedAt, IsRootedBelow, Below, OfAny, CrossesHalf, CrossesLevel, IsAnyCross}

-- ---- what a wanted long code says of its parts

wanted_parts : (ps : List Point) (k : ℕ) (root : ℕ) (toward : Way) (drops : List ℕ) (side : Option ℕ) (tip : ℕ) (code : TreeCode)
    → code ≡ Long root toward drops side tip → IsWanted ps k code → NamesFew ps root drops side tip
wanted_parts ps k root toward drops side tip code is wanted =
    long_names_few ps root toward drops side tip (subst (λ c. IsWanted ps k c) is wanted).passes.form

-- a wanted code has as many members as it names places
wanted_count : (ps : List Point) (k : ℕ) (root : ℕ) (toward : Way) (drops : List ℕ) (side : Option ℕ) (tip : ℕ) (code : TreeCode)
    → code ≡ Long root toward drops side tip → IsWanted ps k code → length drops + length (option_to_list side) + 2 ≤ k
wanted_count ps k root toward drops side tip code is wanted = grind (arith, long_names_few, length-ascending_places)

module _ (ps : List Point) (k : ℕ) (root : ℕ) (toward : Way) (drops : List ℕ) where
  -- ---- sides

  pub HangsBelow-step : (tip n : ℕ) (old mid new : BTreeMap ℕ Tree) → Stores ps k (HangsBelow root toward drops tip n) old mid
      → Stores ps k (IsHung root toward drops n tip) mid new → Stores ps k (HangsBelow root toward drops tip (n + 1)) old new
  HangsBelow-step tip n old mid new a b = Stores-then ps k (HangsBelow root toward drops tip n) (IsHung root toward drops n tip)
      (HangsBelow root toward drops tip (n + 1)) old mid new a b (λ code kind wanted. grind arith)

  -- ---- tips

  EndsBelow-more : (n : ℕ) (code : TreeCode) → EndsBelow root toward drops (n + 1) code
      → EndsBelow root toward drops n code ⊎ EndsAt root toward drops n code
  EndsBelow-more n code (tip, below, ends) = grind (arith, cases_eq tip n)

  pub EndsBelow-step : (n : ℕ) (old mid new : BTreeMap ℕ Tree) → Stores ps k (EndsBelow root toward drops n) old mid
      → Stores ps k (EndsAt root toward drops n) mid new → Stores ps k (EndsBelow root toward drops (n + 1)) old new
  EndsBelow-step n old mid new a b = Stores-then ps k (EndsBelow root toward drops n) (EndsAt root toward drops n)
      (EndsBelow root toward drops (n + 1)) old mid new a b (λ code kind wanted. EndsBelow-more n code kind)

  EndsAt-cases : (tip : ℕ) (made : TreeCode) (code : TreeCode) → made ≡ Long root toward drops None tip
      → EndsAt root toward drops tip code → IsWanted ps k code
      → (code ≡ made) ⊎ HangsBelow root toward drops tip (length ps) code
  EndsAt-cases tip made code is_made (None, is) wanted = inl (is ∙ sym is_made)
  EndsAt-cases tip made code is_made (Some q, is) wanted =
      grind (arith, wanted_parts ps k root toward drops (Some q) tip code is wanted, Some q, All-head)

  pub EndsAt-both : (tip : ℕ) (made : TreeCode) (old mid new : BTreeMap ℕ Tree) (result : Result (Unit {0}) GenFault)
      → made ≡ Long root toward drops None tip → Stores ps k (λ other. other ≡ made) old mid
      → Generates ps k (HangsBelow root toward drops tip (length ps)) mid new result
      → Generates ps k (EndsAt root toward drops tip) old new result
  EndsAt-both tip made old mid new result is a b = Generates-then ps k (λ other. other ≡ made) (HangsBelow root toward drops tip (length ps))
      (EndsAt root toward drops tip) old mid new result a b (λ code kind wanted. EndsAt-cases tip made code is kind wanted)

  -- ---- drops

  ends_only : (code : TreeCode) (more : List ℕ) (side : Option ℕ) (tip : ℕ) → code ≡ Long root toward (drops ++ more) side tip
      → k < length drops + 3 → IsWanted ps k code → EndsBelow root toward drops (length ps) code
  ends_only code [] side tip is full wanted =
      let none : Long root toward (drops ++ []) side tip ≡ Long root toward drops side tip = ap (λ (ds : List ℕ). Long root toward ds side tip) (append-nil drops) in
      let parts = wanted_parts ps k root toward drops side tip code (is ∙ none) wanted in
      (tip, parts.tip_in, (side, is ∙ none))
  ends_only code (d ∷ rest) side tip is full wanted =
      let count = wanted_count ps k root toward (drops ++ d ∷ rest) side tip code is wanted in
      let size = length-append drops (d ∷ rest) in
      absurd (omega (arith, count, size, full))

  -- where no further drop is allowed, the codes that begin so have none
  pub HasPrefix-ends : (old new : BTreeMap ℕ Tree) → k < length drops + 3 → Stores ps k (EndsBelow root toward drops (length ps)) old new
      → Stores ps k (HasPrefix root toward drops) old new
  HasPrefix-ends old new full a = Stores-only ps k (EndsBelow root toward drops (length ps)) (HasPrefix root toward drops) old new a
      (λ code kind wanted. ends_only code kind.0 kind.1 kind.2 kind.3 full wanted)

  grown_only : (code : TreeCode) (more : List ℕ) (side : Option ℕ) (tip : ℕ) → code ≡ Long root toward (drops ++ more) side tip
      → IsWanted ps k code → GrownBelow root toward drops (length ps) (length ps) code
  grown_only code [] side tip is wanted =
      let none : Long root toward (drops ++ []) side tip ≡ Long root toward drops side tip = ap (λ (ds : List ℕ). Long root toward ds side tip) (append-nil drops) in
      let parts = wanted_parts ps k root toward drops side tip code (is ∙ none) wanted in
      inl (tip, parts.tip_in, (side, is ∙ none))
  grown_only code (d ∷ rest) side tip is wanted =
      let parts = wanted_parts ps k root toward (drops ++ d ∷ rest) side tip code is wanted in
      let inside = All-head (λ j. j < length ps) d rest (All-second (λ j. j < length ps) drops (d ∷ rest) parts.drops_in) in
      let whole : Long root toward (drops ++ d ∷ rest) side tip ≡ Long root toward ((drops ++ d ∷ []) ++ rest) side tip =
      ap (λ (ds : List ℕ). Long root toward ds side tip) (sym (append_assoc drops (d ∷ []) rest)) in
      inr (d, inside, (rest, side, tip, is ∙ whole))

  -- all codes that begin so, at the end of the loop over the next drops
  pub HasPrefix-grown : (n : ℕ) (old new : BTreeMap ℕ Tree) → n ≡ length ps → Stores ps k (GrownBelow root toward drops (length ps) n) old new
      → Stores ps k (HasPrefix root toward drops) old new
  HasPrefix-grown n old new is a = Stores-only ps k (GrownBelow root toward drops (length ps) n) (HasPrefix root toward drops) old new a
      (λ code kind wanted. subst (λ m. GrownBelow root toward drops (length ps) m code) (sym is)
      (grown_only code kind.0 kind.1 kind.2 kind.3 wanted))

  GrownBelow-more : (n m : ℕ) (code : TreeCode) → GrownBelow root toward drops n (m + 1) code
      → GrownBelow root toward drops n m code ⊎ HasPrefix root toward (drops ++ m ∷ []) code
  GrownBelow-more n m code kind = ⊎_elim
      (λ (ends : EndsBelow root toward drops n code). inl (inl ends))
      (λ (next : ContinuesBelow root toward drops (m + 1) code). ⊎_elim
      (λ (same : next.0 ≡ m). inr (subst (λ d. HasPrefix root toward (drops ++ d ∷ []) code) same next.2))
      (λ (apart : next.0 ≡ m → ⊥). let below = next.1 in inl (inr (next.0, omega arith, next.2)))
      (cases_eq next.0 m))
      kind

  -- a drop that may not follow
  pub GrownBelow-given_up : (qs : List Point) (n m : ℕ) (old new : BTreeMap ℕ Tree) → qs ≡ ps
      → (MayFollow qs root toward drops m → ⊥)
      → Stores ps k (GrownBelow root toward drops n m) old new → Stores ps k (GrownBelow root toward drops n (m + 1)) old new
  GrownBelow-given_up qs n m old new same never a = Stores-only ps k (GrownBelow root toward drops n m) (GrownBelow root toward drops n (m + 1)) old new a
      (λ code kind wanted. ⊎_elim
      (λ (before : GrownBelow root toward drops n m code). before)
      (λ (here : HasPrefix root toward (drops ++ m ∷ []) code).
      absurd (never (subst (λ (rs : List Point). MayFollow rs root toward drops m) (sym same)
      (MayFollow-from_passing ps root toward drops m code here wanted.passes))))
      (GrownBelow-more n m code kind))

  -- a drop that follows
  pub GrownBelow-step : (longer : Prefix) (n m : ℕ) (old mid new : BTreeMap ℕ Tree)
      → longer.root ≡ root → longer.toward ≡ toward → longer.drops ≡ drops ++ m ∷ []
      → Stores ps k (GrownBelow root toward drops n m) old mid
      → Stores ps k (HasPrefix longer.root longer.toward longer.drops) mid new
      → Stores ps k (GrownBelow root toward drops n (m + 1)) old new
  GrownBelow-step longer n m old mid new e f g a b = Stores-then ps k (GrownBelow root toward drops n m)
      (HasPrefix longer.root longer.toward longer.drops) (GrownBelow root toward drops n (m + 1)) old mid new a b
      (λ code kind wanted. ⊎_elim
      (λ (before : GrownBelow root toward drops n m code). inl before)
      (λ (here : HasPrefix root toward (drops ++ m ∷ []) code).
      inr (subst (λ (r : ℕ). HasPrefix r longer.toward longer.drops code) (sym e)
      (subst (λ (w : Way). HasPrefix root w longer.drops code) (sym f)
      (subst (λ (ds : List ℕ). HasPrefix root toward ds code) (sym g) here))))
      (GrownBelow-more n m code kind))

-- a tip at which no code may end
pub EndsAt-out : (ps qs : List Point) (k : ℕ) (prefix : Prefix) (tip : ℕ) (trees : BTreeMap ℕ Tree) → qs ≡ ps → IsStore ps k trees
    → (MayEndAt qs prefix.root prefix.toward prefix.drops tip → ⊥)
    → Stores ps k (EndsAt prefix.root prefix.toward prefix.drops tip) trees trees
EndsAt-out ps qs k prefix tip trees same store out = grind arith

-- a tip that is not near
pub EndsAt-far : (ps qs : List Point) (k : ℕ) (prefix : Prefix) (tip : ℕ) (trees : BTreeMap ℕ Tree) → qs ≡ ps → IsPrefix ps prefix → IsStore ps k trees
    → (IsWithinBottleneck qs prefix.last tip (distance_between prefix.foot (foot qs prefix.root prefix.toward tip)) → ⊥)
    → Stores ps k (EndsAt prefix.root prefix.toward prefix.drops tip) trees trees
EndsAt-far ps qs k prefix tip trees same is store far = Stores-none ps k (EndsAt prefix.root prefix.toward prefix.drops tip) trees store
    (λ code ends wanted.
    let there = subst (λ c. IsWanted ps k c) ends.1 wanted in
    let near = near_from_passing ps prefix.root prefix.toward prefix.drops ends.0 tip there.passes in
    let near' = subst (λ (q : Point). IsWithinBottleneck ps (last_member prefix.root prefix.drops) tip (distance_between q (foot ps prefix.root prefix.toward tip))) (sym is.foot_is) near in
    let near'' = subst (λ (l : ℕ). IsWithinBottleneck ps l tip (distance_between prefix.foot (foot ps prefix.root prefix.toward tip))) (sym is.last_is) near' in
    far (subst (λ (rs : List Point). IsWithinBottleneck rs prefix.last tip (distance_between prefix.foot (foot rs prefix.root prefix.toward tip))) (sym same) near''))

-- a prefix is one of the same points
pub IsPrefix-of : (ps qs : List Point) (prefix : Prefix) → qs ≡ ps → IsPrefix ps prefix → IsPrefix qs prefix
IsPrefix-of ps qs prefix same is = subst (λ (rs : List Point). IsPrefix rs prefix) (sym same) is

-- the bottleneck of two terminals that were named otherwise
pub IsBottleneck-there : (ps ts : List Point) (i i' j j' most : ℕ) → ps ≡ ts → i' ≡ i → j' ≡ j → IsBottleneck ts i' j' most → IsBottleneck ps i j most
IsBottleneck-there ps ts i i' j j' most same e f b = grind arith

-- ---- roots and directions

module _ (ps : List Point) (k : ℕ) where
  IsRootedBelow-more : (n : ℕ) (code : TreeCode) → IsRootedBelow (n + 1) code → IsRootedBelow n code ⊎ IsRootedAt n code
  IsRootedBelow-more n code (root, below, rooted) = grind (arith, cases_eq root n)

  pub IsRootedBelow-step : (n : ℕ) (old mid new : BTreeMap ℕ Tree) → Stores ps k (IsRootedBelow n) old mid
      → Stores ps k (IsRootedAt n) mid new → Stores ps k (IsRootedBelow (n + 1)) old new
  IsRootedBelow-step n old mid new a b = Stores-then ps k (IsRootedBelow n) (IsRootedAt n) (IsRootedBelow (n + 1)) old mid new a b
      (λ code kind wanted. IsRootedBelow-more n code kind)

  abbrev East_or_North : ℕ → TreeCode → Type 0
  East_or_North root code = HasPrefix root East [] code ⊎ HasPrefix root North [] code

  abbrev But_South : ℕ → TreeCode → Type 0
  But_South root code = East_or_North root code ⊎ HasPrefix root West [] code

  IsRootedAt-cases : (root : ℕ) (toward : Way) (code : TreeCode) → HasPrefix root toward [] code
      → But_South root code ⊎ HasPrefix root South [] code
  IsRootedAt-cases root East code begins = inl (inl (inl begins))
  IsRootedAt-cases root North code begins = inl (inl (inr begins))
  IsRootedAt-cases root West code begins = inl (inr begins)
  IsRootedAt-cases root South code begins = inr begins

  -- one direction after another
  pub IsRootedAt-all : (root : ℕ) (old a b c new : BTreeMap ℕ Tree) (result : Result (Unit {0}) GenFault)
      → Stores ps k (HasPrefix root East []) old a → Stores ps k (HasPrefix root North []) a b
      → Stores ps k (HasPrefix root West []) b c → Generates ps k (HasPrefix root South []) c new result
      → Generates ps k (IsRootedAt root) old new result
  IsRootedAt-all root old a b c new result east north west south =
      let two = Stores-then ps k (HasPrefix root East []) (HasPrefix root North []) (East_or_North root) old a b east north (λ code kind wanted. kind) in
      let three = Stores-then ps k (East_or_North root) (HasPrefix root West []) (But_South root) old b c two west (λ code kind wanted. kind) in
      Generates-then ps k (But_South root) (HasPrefix root South []) (IsRootedAt root) old c new result three south
      (λ code kind wanted. IsRootedAt-cases root kind.0 code kind.1)

-- ---- crosses: one terminal after another

module _ (ps : List Point) (k : ℕ) (Of : ℕ → TreeCode → Type 0) where
  pub Below-step : (n : ℕ) (old mid new : BTreeMap ℕ Tree) → Stores ps k (Below Of n) old mid → Stores ps k (Of n) mid new
      → Stores ps k (Below Of (n + 1)) old new
  Below-step n old mid new a b = Stores-then ps k (Below Of n) (Of n) (Below Of (n + 1)) old mid new a b (λ code kind wanted. grind arith)

  pub Below-all : (n : ℕ) (old new : BTreeMap ℕ Tree) → n ≡ length ps
      → ((i : ℕ) (code : TreeCode) → Of i code → IsWanted ps k code → i < length ps)
      → Stores ps k (Below Of n) old new → Stores ps k (OfAny Of) old new
  Below-all n old new is inside a = Stores-only ps k (Below Of n) (OfAny Of) old new a
      (λ code kind wanted. (kind.0, subst (λ m. kind.0 < m) (sym is) (inside kind.0 code kind.1 wanted), kind.1))

-- what a wanted cross says
module _ (ps : List Point) (k west south east north : ℕ) (code : TreeCode) (is : code ≡ Cross west south east north) (wanted : IsWanted ps k code) where
  cross : IsWanted ps k (Cross west south east north)
  cross = subst (λ c. IsWanted ps k c) is wanted

  pub west_in : west < length ps
  west_in = cross.passes.form.terminals 0 0 (omega arith)

  pub south_in : south < length ps
  south_in = cross.passes.form.terminals 1 0 (omega arith)

  pub east_in : east < length ps
  east_in = cross.passes.form.terminals 2 0 (omega arith)

  pub north_in : north < length ps
  north_in = cross.passes.form.terminals 3 0 (omega arith)

-- a west and an east that aren't level, and a south that isn't between them
pub Crosses-none : (ps : List Point) (k west east : ℕ) (trees : BTreeMap ℕ Tree) (p q : Point) → p ≡ point_at ps west → q ≡ point_at ps east
    → IsStore ps k trees → (p.y ≡ q.y → ⊥) → Stores ps k (CrossesLevel west east) trees trees
Crosses-none ps k west east trees p q e f store apart = grind arith

pub Crosses-beside : (ps : List Point) (k west east south : ℕ) (trees : BTreeMap ℕ Tree) (p q r : Point)
    → p ≡ point_at ps west → q ≡ point_at ps south → r ≡ point_at ps east
    → IsStore ps k trees → ((p.x <ℤ q.x) × (q.x <ℤ r.x) → ⊥) → Stores ps k (CrossesHalf west east south) trees trees
Crosses-beside ps k west east south trees p q r e f g store apart = grind arith

-- each wanted code is a long one of some root, or a cross
pub any_code : (ps : List Point) (k : ℕ) (code : TreeCode) → IsWanted ps k code → IsRootedBelow (length ps) code ⊎ IsAnyCross code
any_code ps k (Long root toward drops side tip) wanted = grind (arith, long_names_few)
any_code ps k (Cross west south east north) wanted = inr (west, (east, (south, (north, refl))))
