-- Sets of edges in lists: one edge, two lists one behind the other, and one edge after another.
use Rattle.std.specs.Prelude.{ℕ, ◌≡◌, ◌<◌, ◌==◌, ◌||◌, ◌++◌, ◌∷◌, [], Bool, true, false, List, length, replicate, slice_index_or, slice_set, take, ◌+◌, All}
use Rattle.std.proofs.Common.{refl, sym, ap, ◌∙◌, arith, length-set}
use Rattle.std.proofs.lemmas.Bool.{cases_eq, eq-eqb, ne_eqb}
use Rattle.std.proofs.lemmas.List.{ext_get_or, length-replicate, get_or-replicate, get_or-set_same, get_or-set_other}
use Rattle.std.proofs.lemmas.List.Folds.{list_any-append, list_any_more}
use Rattle.std.proofs.lemmas.List.FromFn.{length-map-range_with_len, get_or-map-range_with_len, fill_by_all}
use Rattle.net_graph.specs.Flags.{has}
use Rattle.graph_reduce.specs.State.{union}
use Rattle.graph_reduce.specs.Originals.{holds, flags_of}
use Rattle.graph_reduce.proofs.lemmas.Unions.{or-false, has-union, length-union}

pub length-flags : (size : ℕ) (ns : List ℕ) → length (flags_of size ns) ≡ size
length-flags size ns = length-map-range_with_len (λ e. holds e ns) 0 size

-- a number is in the set where the list has it
pub has-flags : (size : ℕ) (ns : List ℕ) (e : ℕ) → e < size → has (flags_of size ns) e ≡ holds e ns
has-flags size ns e below = get_or-map-range_with_len (λ e. holds e ns) 0 size e e false below (omega arith)

-- one number more
pub has-set : (set : List Bool) (n e : ℕ) → n < length set → has (slice_set set n true) e ≡ (has set e || (n == e))
has-set set n e below =
    grind (arith, cases_eq e n, get_or-set_same set n true false below, eq-eqb, get_or-set_other, ne_eqb, or-false (has set e))

-- sets of one size
pub same_size : (one two : ℕ) (ms ns : List ℕ) (xs ys : List Bool) → flags_of one ms ≡ xs → flags_of two ns ≡ ys →
    length xs ≡ length ys → one ≡ two
same_size one two ms ns xs ys xs_is ys_is same = grind (arith, length-flags)

-- the list of one number
pub flags_of_one : (size n : ℕ) → n < size → flags_of size (n ∷ []) ≡ slice_set (replicate size false) n true
flags_of_one size n below = sym (fill_by_all (λ e. holds e (n ∷ [])) (slice_set (replicate size false) n true) size false
    (length-set (replicate size false) n true ∙ length-replicate size false)
    (λ e within. has-set (replicate size false) n e (omega (arith, length-replicate size false))
    ∙ ap (λ b. b || (n == e)) (get_or-replicate size e false false within) ∙ or_last (n == e)))
  where
    or_last : (b : Bool) → (false || b) ≡ (b || false)
    or_last true = refl
    or_last false = refl

-- one list behind another
pub flags_of_both : (size : ℕ) (ms ns : List ℕ) →
    flags_of size (ms ++ ns) ≡ union (flags_of size ms) (flags_of size ns)
flags_of_both size ms ns = sym (fill_by_all (λ e. holds e (ms ++ ns)) (union (flags_of size ms) (flags_of size ns)) size false
    (length-union (flags_of size ms) (flags_of size ns) (length-flags size ms ∙ sym (length-flags size ns))
    ∙ length-flags size ns)
    (λ e within. search (has-union, has-flags, list_any-append)))

-- ---- one number after another

pub record AreAdded (old new : List Bool) (ns : List ℕ) : Type 0 where
  pub size : length new ≡ length old
  pub flags : (e : ℕ) → has new e ≡ (has old e || holds e ns)

pub none_added : (set : List Bool) → AreAdded set set []
none_added set = record { size = refl; flags = λ e. sym (or-false (has set e)) }

pub one_added : (old new : List Bool) (ns : List ℕ) (k d : ℕ) → k < length ns → All (λ n. n < length old) ns →
    AreAdded old new (take k ns) → AreAdded old (slice_set new (slice_index_or ns k d) true) (take (k + 1) ns)
one_added old new ns k d within below are = record {
  size = length-set new (slice_index_or ns k d) true ∙ are.size;
  flags = λ e. has-set new (slice_index_or ns k d) e (omega (arith, below k d within, are.size)) ∙ ap (λ b. b || (slice_index_or ns k d == e)) (are.flags e)
      ∙ or_assoc (has old e) (holds e (take k ns)) (slice_index_or ns k d == e)
      ∙ ap (λ b. has old e || b) (sym (list_any_more (λ m. m == e) ns k d within));
}
  where
    or_assoc : (a b c : Bool) → ((a || b) || c) ≡ (a || (b || c))
    or_assoc true b c = refl
    or_assoc false b c = refl

pub all_added : (old new : List Bool) (size : ℕ) (ns : List ℕ) → length old ≡ size → AreAdded old new ns →
    new ≡ union old (flags_of size ns)
all_added old new size ns same are =
    ext_get_or false new (union old (flags_of size ns))
    (are.size ∙ same ∙ sym (length-union old (flags_of size ns) (same ∙ sym (length-flags size ns))
    ∙ length-flags size ns))
    (λ e below. grind (arith, has-union, has-flags))

-- numbers below the size are below that of a set of this size
pub numbers_below : (size : ℕ) (ns read : List ℕ) (now set : List Bool) → flags_of size ns ≡ now →
    length set ≡ length now → read ≡ ns → All (λ n. n < size) ns → All (λ n. n < length set) read
numbers_below size ns read now set view same is below k d within = grind (arith, length-flags)
