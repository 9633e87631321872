-- Cuts of weight 1 in place of others: the same loads, the same value, and more of them.
use Rattle.std.proofs.Common.{ℕ, zero, suc, ◌≡◌, ◌*◌, ◌<◌, Bool, true, false}
use Rattle.std.proofs.Common.{if◌then◌else◌, List, [], ◌∷◌, filter, length, replicate, sum_by, All}
use Rattle.std.proofs.Common.{refl, ap, arith, length-append}
use Rattle.std.proofs.lemmas.List.{length-replicate}
use Rattle.std.proofs.lemmas.List.Elements.{All-nil, All-cons, All-head, All-tail, All-append, filter-append}
use Rattle.std.proofs.lemmas.List.Folds.{sum_by-replicate}
use Rattle.std.proofs.lemmas.List.Sums.{sum_by-append, sum_by-cons}
use Rattle.net_graph.specs.declared.edge.Edge.{Edge}
use Rattle.net_graph.specs.declared.packing.Cut.{Cut}
use Rattle.net_graph.specs.Graph.{Graph}
use Rattle.net_graph.specs.Decision.{Decided}
use Rattle.net_graph.specs.Packing.{IsCut, enters, load}
use Rattle.dual_ascent.specs.Carried.{unentered}
use Rattle.branch.specs.Variants.{in_units}

-- the cut with the weight 1
abbrev pub unit_of : Cut → Cut
unit_of c = record { weight = 1; members = c.members }

times_one : (n m : ℕ) → m ≡ 1 → n * m ≡ n
times_one n m is = rw is (omega arith)

-- the same weight
pub weight-in_units : (cuts : List Cut) → sum_by (λ c. c.weight) (in_units cuts) ≡ sum_by (λ c. c.weight) cuts
weight-in_units [] = refl
weight-in_units (c ∷ cuts) =
    omega (
      arith,
      sum_by-append (λ (x : Cut). x.weight) (replicate c.weight (unit_of c)) (in_units cuts),
      sum_by-replicate (λ (x : Cut). x.weight) c.weight (unit_of c),
      times_one c.weight 1 refl,
      sum_by-cons (λ (x : Cut). x.weight) c cuts,
      weight-in_units cuts,
    )

-- as many cuts as the weight says
pub length-in_units : (cuts : List Cut) → length (in_units cuts) ≡ sum_by (λ c. c.weight) cuts
length-in_units [] = refl
length-in_units (c ∷ cuts) =
    omega (
      arith,
      length-append (replicate c.weight (unit_of c)) (in_units cuts),
      length-replicate c.weight (unit_of c),
      sum_by-cons (λ (x : Cut). x.weight) c cuts,
      length-in_units cuts,
    )

-- what a cut loads onto an arc
abbrev load_of : ℕ → ℕ → Cut → ℕ
load_of u v c = if enters c.members u v then c.weight else 0

-- the same loads
pub load-in_units : (cuts : List Cut) (u v : ℕ) → load (in_units cuts) u v ≡ load cuts u v
load-in_units [] u v = refl
load-in_units (c ∷ cuts) u v =
    grind (
      arith,
      sum_by-append (load_of u v) (replicate c.weight (unit_of c)) (in_units cuts),
      sum_by-replicate (load_of u v) c.weight (unit_of c),
      sum_by-cons (load_of u v) c cuts,
      load-in_units cuts u v,
    )

All-replicate : (P : Cut → Type 0) (n : ℕ) (c : Cut) → P c → All P (replicate n c)
All-replicate P zero c holds = All-nil P
All-replicate P (suc n) c holds = All-cons P c (replicate n c) holds (All-replicate P n c holds)

-- the same sets, each of a weight of at least 1
pub cuts-in_units : (g : Graph) (d : Decided) (cuts : List Cut) → All (λ c. (0 < c.weight) × IsCut g d c.members) cuts →
    All (λ c. (0 < c.weight) × IsCut g d c.members) (in_units cuts)
cuts-in_units g d [] all = all
cuts-in_units g d (c ∷ cuts) all =
    let P = λ (x : Cut). (0 < x.weight) × IsCut g d x.members in
    let one : P (unit_of c) = (omega arith, (All-head P c cuts all).1) in
    All-append P (replicate c.weight (unit_of c)) (in_units cuts) (All-replicate P c.weight (unit_of c) one)
    (cuts-in_units g d cuts (All-tail P c cuts all))

filter-passes : (test : Cut → Bool) (n : ℕ) (c : Cut) → test c ≡ true → filter test (replicate n c) ≡ replicate n c
filter-passes test zero c passed = refl
filter-passes test (suc n) c passed = rw passed (ap (λ xs. c ∷ xs) (filter-passes test n c passed))

filter-fails : (test : Cut → Bool) (n : ℕ) (c : Cut) → test c ≡ false → filter test (replicate n c) ≡ []
filter-fails test zero c failed = refl
filter-fails test (suc n) c failed = rw failed (filter-fails test n c failed)

-- what no edge enters, in units
pub unentered-in_units : (edges : List Edge) (cuts : List Cut) →
    unentered edges (in_units cuts) ≡ in_units (unentered edges cuts)
unentered-in_units edges [] = refl
unentered-in_units edges (c ∷ cuts) =
    grind (arith, filter-append, filter-passes, filter-fails, unentered-in_units edges cuts)
