-- Laws of the orders: they are total, only equal values tie, and neighbours in order make a list in order.
use Rattle.std.specs.Prelude.{ℕ, suc, ◌+◌, ◌≡◌, ◌<◌, List, length, slice_index_or, refl, Option, None, Some}
use Rattle.std.specs.List.{AllAdjacentBelow}
use Rattle.std.specs.declared.cmp.Ordering.{Ordering}
use Rattle.std.specs.declared.cmp.Ordering.TheVariants.{Less, Equal, Greater}
use Rattle.std.specs.Ordering.{nat_cmp, ordering_then, ordering_reverse, then_cmp, on}
use Rattle.std.specs.Option.{option_cmp}
use Rattle.std.specs.Cmp.{IsTotalOrder}
use Rattle.std.specs.Cmp.Lexicographic.{slice_cmp, lists_total, options_total}
use Rattle.std.specs.FinMap.{nat_cmp-IsAntisymmetric, slice_cmp-IsAntisymmetric}
use Rattle.std.proofs.Common.{arith, zero, ◌-◌, ap, sym, ◌∙◌, subst}
use Rattle.std.proofs.lemmas.Cmp.{nat_cmp_total, on_total, then_total}
use Rattle.full_tree.specs.declared.way.Way.{Way}
use Rattle.full_tree.specs.declared.way.Way.TheVariants.{East, North, West, South}
use Rattle.full_tree.specs.declared.code.Tree.{Tree}
use Rattle.full_tree.specs.declared.code.TreeCode.{TreeCode}
use Rattle.full_tree.specs.declared.code.TreeCode.TheVariants.{Long, Cross}
use Rattle.full_tree.specs.Code.{members_of}
use Rattle.full_tree.specs.Order.{way_rank, code_cmp, tree_cmp, IsInFileOrder}

-- ---- codes

-- what a long code tells
record LongParts : Type 0 where
  root : ℕ
  toward : Way
  drops : List ℕ
  side : Option ℕ
  tip : ℕ

-- what a cross tells
record CrossParts : Type 0 where
  west : ℕ
  south : ℕ
  east : ℕ
  north : ℕ

abbrev long_cmp : LongParts → LongParts → Ordering
long_cmp = then_cmp (on (λ p. p.root) nat_cmp)
    (then_cmp (on (λ p. way_rank p.toward) nat_cmp)
    (then_cmp (on (λ p. p.drops) (slice_cmp nat_cmp))
    (then_cmp (on (λ p. p.side) (option_cmp nat_cmp)) (on (λ p. p.tip) nat_cmp))))

abbrev cross_cmp : CrossParts → CrossParts → Ordering
cross_cmp = then_cmp (on (λ p. p.west) nat_cmp)
    (then_cmp (on (λ p. p.south) nat_cmp) (then_cmp (on (λ p. p.east) nat_cmp) (on (λ p. p.north) nat_cmp)))

abbrev long_parts : ℕ → Way → List ℕ → Option ℕ → ℕ → LongParts
long_parts r w ds q t = record { root = r; toward = w; drops = ds; side = q; tip = t }

abbrev cross_parts : ℕ → ℕ → ℕ → ℕ → CrossParts
cross_parts w s e n = record { west = w; south = s; east = e; north = n }

long_total : IsTotalOrder long_cmp
long_total = then_total (on_total (λ p. p.root) nat_cmp_total)
    (then_total (on_total (λ p. way_rank p.toward) nat_cmp_total)
    (then_total (on_total (λ p. p.drops) (lists_total nat_cmp_total))
    (then_total (on_total (λ p. p.side) (options_total nat_cmp_total)) (on_total (λ p. p.tip) nat_cmp_total))))

cross_total : IsTotalOrder cross_cmp
cross_total = then_total (on_total (λ p. p.west) nat_cmp_total)
    (then_total (on_total (λ p. p.south) nat_cmp_total)
    (then_total (on_total (λ p. p.east) nat_cmp_total) (on_total (λ p. p.north) nat_cmp_total)))

codes_antisymm : (a b : TreeCode) → code_cmp a b ≡ ordering_reverse (code_cmp b a)
codes_antisymm (Long r w ds q t) (Long r' w' ds' q' t') =
    long_total.antisymm (long_parts r w ds q t) (long_parts r' w' ds' q' t')
codes_antisymm (Long r w ds q t) (Cross w' s e n) = refl
codes_antisymm (Cross w s e n) (Long r w' ds q t) = refl
codes_antisymm (Cross w s e n) (Cross w' s' e' n') =
    cross_total.antisymm (cross_parts w s e n) (cross_parts w' s' e' n')

codes_trans : (a b c : TreeCode) → code_cmp a b ≡ Less → code_cmp b c ≡ Less → code_cmp a c ≡ Less
codes_trans (Long r w ds q t) (Long r' w' ds' q' t') (Long r'' w'' ds'' q'' t'') h g =
    long_total.trans (long_parts r w ds q t) (long_parts r' w' ds' q' t') (long_parts r'' w'' ds'' q'' t'') h g
codes_trans (Long r w ds q t) b (Cross w' s e n) h g = refl
codes_trans (Long r w ds q t) (Cross w' s e n) (Long r' w'' ds' q' t') h g = cc
codes_trans (Cross w s e n) (Long r w' ds q t) c h g = cc
codes_trans (Cross w s e n) (Cross w' s' e' n') (Long r w'' ds q t) h g = cc
codes_trans (Cross w s e n) (Cross w' s' e' n') (Cross w'' s'' e'' n'') h g =
    cross_total.trans (cross_parts w s e n) (cross_parts w' s' e' n') (cross_parts w'' s'' e'' n'') h g

codes_congr : (a b c : TreeCode) → code_cmp a b ≡ Equal → code_cmp a c ≡ code_cmp b c
codes_congr (Long r w ds q t) (Long r' w' ds' q' t') (Long r'' w'' ds'' q'' t'') h =
    long_total.congr (long_parts r w ds q t) (long_parts r' w' ds' q' t') (long_parts r'' w'' ds'' q'' t'') h
codes_congr (Long r w ds q t) (Long r' w' ds' q' t') (Cross w'' s e n) h = refl
codes_congr (Long r w ds q t) (Cross w' s e n) c h = cc
codes_congr (Cross w s e n) (Long r w' ds q t) c h = cc
codes_congr (Cross w s e n) (Cross w' s' e' n') (Long r w'' ds q t) h = refl
codes_congr (Cross w s e n) (Cross w' s' e' n') (Cross w'' s'' e'' n'') h =
    cross_total.congr (cross_parts w s e n) (cross_parts w' s' e' n') (cross_parts w'' s'' e'' n'') h

-- the order of codes is total
pub code_cmp_total : IsTotalOrder code_cmp
code_cmp_total = record { antisymm = codes_antisymm; trans = codes_trans; congr = codes_congr }

-- two that tie in an order, and then in a further one, tie in both
tied_first : (o p : Ordering) → ordering_then o p ≡ Equal → o ≡ Equal
tied_first Less p h = h
tied_first Equal p h = refl
tied_first Greater p h = h

tied_then : (o p : Ordering) → ordering_then o p ≡ Equal → p ≡ Equal
tied_then Less p h = cc
tied_then Equal p h = h
tied_then Greater p h = cc

-- only a direction has its rank
same_way : (v w : Way) → way_rank v ≡ way_rank w → v ≡ w
same_way East East h = refl
same_way North North h = refl
same_way West West h = refl
same_way South South h = refl
same_way v w h = absurd (omega arith)

same_side : (q q' : Option ℕ) → option_cmp nat_cmp q q' ≡ Equal → q ≡ q'
same_side None None h = refl
same_side None (Some y) h = cc
same_side (Some x) None h = cc
same_side (Some x) (Some y) h = ap Some (nat_cmp-IsAntisymmetric x y h)

-- only one code is no earlier and no later than a code
pub same_code : (a b : TreeCode) → code_cmp a b ≡ Equal → a ≡ b
same_code (Long r w ds q t) (Long r' w' ds' q' t') h =
    let root = tied_first _ _ h in
    let from_way = tied_then _ _ h in
    let way = tied_first _ _ from_way in
    let from_drops = tied_then _ _ from_way in
    let drops = tied_first _ _ from_drops in
    let from_side = tied_then _ _ from_drops in
    let a = nat_cmp-IsAntisymmetric r r' root in
    let b = same_way w w' (nat_cmp-IsAntisymmetric (way_rank w) (way_rank w') way) in
    let c = slice_cmp-IsAntisymmetric nat_cmp-IsAntisymmetric ds ds' drops in
    let d = same_side q q' (tied_first _ _ from_side) in
    let e = nat_cmp-IsAntisymmetric t t' (tied_then _ _ from_side) in
    cc
same_code (Long r w ds q t) (Cross w' s e n) h = cc
same_code (Cross w s e n) (Long r w' ds q t) h = cc
same_code (Cross w s e n) (Cross w' s' e' n') h =
    let from_south = tied_then _ _ h in
    let from_east = tied_then _ _ from_south in
    let a = nat_cmp-IsAntisymmetric w w' (tied_first _ _ h) in
    let b = nat_cmp-IsAntisymmetric s s' (tied_first _ _ from_south) in
    let c = nat_cmp-IsAntisymmetric e e' (tied_first _ _ from_east) in
    let d = nat_cmp-IsAntisymmetric n n' (tied_then _ _ from_east) in
    cc

-- ---- trees

-- file order is total
pub tree_cmp_total : IsTotalOrder tree_cmp
tree_cmp_total = then_total (on_total (λ t. t.length) nat_cmp_total)
    (then_total (on_total (λ t. length (members_of t.code)) nat_cmp_total)
    (then_total (on_total (λ t. members_of t.code) (lists_total nat_cmp_total))
    (on_total (λ t. t.code) code_cmp_total)))

-- only one tree is no earlier and no later than a tree
pub same_tree : (a b : Tree) → tree_cmp a b ≡ Equal → a ≡ b
same_tree a b h =
    let by_length = nat_cmp a.length b.length in
    let by_count = nat_cmp (length (members_of a.code)) (length (members_of b.code)) in
    let by_members = slice_cmp nat_cmp (members_of a.code) (members_of b.code) in
    let by_code = code_cmp a.code b.code in
    let long = nat_cmp-IsAntisymmetric a.length b.length
    (tied_first by_length (ordering_then by_count (ordering_then by_members by_code)) h) in
    let from_count = tied_then by_length (ordering_then by_count (ordering_then by_members by_code)) h in
    let from_members = tied_then by_count (ordering_then by_members by_code) from_count in
    let code = same_code a.code b.code (tied_then by_members by_code from_members) in
    let tree : ℕ → TreeCode → Tree = λ n c. record { length = n; code = c } in
    ap (λ n. tree n a.code) long ∙ ap (λ c. tree b.length c) code

-- an earlier tree comes before a later one, where each comes before the next one
far : (trees : List Tree) → AllAdjacentBelow (λ a b. tree_cmp a b ≡ Less) trees (length trees)
    → (n i : ℕ) (d : Tree) → i + n + 1 < length trees
    → tree_cmp (slice_index_or trees i d) (slice_index_or trees (i + n + 1) d) ≡ Less
far trees adjacent zero i d inside =
    let next : i + zero + 1 ≡ i + 1 = omega arith in rw next (adjacent i d (omega arith))
far trees adjacent (suc n) i d inside =
    let last : i + suc n + 1 ≡ (i + n + 1) + 1 = omega arith in
    let at = λ (k : ℕ). slice_index_or trees k d in
    rw last (tree_cmp_total.trans (at i) (at (i + n + 1)) (at (i + n + 1 + 1))
    (far trees adjacent n i d (omega arith)) (adjacent (i + n + 1) d (omega arith)))

pub in_file_order_by_neighbours : (trees : List Tree)
    → AllAdjacentBelow (λ a b. tree_cmp a b ≡ Less) trees (length trees) → IsInFileOrder trees
in_file_order_by_neighbours trees adjacent i j d before inside =
    let apart : j ≡ i + (j - i - 1) + 1 = omega arith in
    subst (λ k. tree_cmp (slice_index_or trees i d) (slice_index_or trees k d) ≡ Less) (sym apart)
    (far trees adjacent (j - i - 1) i d (omega arith))
