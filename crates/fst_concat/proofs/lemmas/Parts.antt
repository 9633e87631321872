-- Labels as parts: what a merge of labels keeps, and what labels say once all trees are gone through.
use Rattle.std.specs.Prelude.{slice_get, slice_index, slice_index_or, Contains}
use Rattle.std.specs.Option.{option_map, is_some}
use Rattle.fst_concat.specs.Listed.{tree_members, IsListed}
use Rattle.std.proofs.lemmas.Bool.{eqb-true}
use Rattle.std.proofs.lemmas.List.{length-map}
use borrow.Author.Count.{below_more}
use Rattle.std.proofs.lemmas.List.Elements.{All-contains, All-contains_itself}
use Rattle.std.proofs.lemmas.Option.{slice_get_within, slice_get-map}
use Rattle.std.proofs.Common.{ℕ, zero, suc, ◌≡◌, ◌+◌, ◌<◌, ◌==◌, ◌⊎◌, Bool, true, false, Option, Some, None, IfSome, IfNone, MatchOption, List, [], ◌∷◌, All, length, refl, ap, sym, subst, ◌∙◌, ⊎_elim, arith}
use Rattle.net_graph.specs.Search.{Leads}
use Rattle.net_graph.specs.SearchLaws.{Leads-start, Leads-more, Leads-trans, Leads-keeps, Leads-back}
use Rattle.full_tree.specs.declared.code.Tree.{Tree}
use Rattle.full_tree.specs.Code.{members_of}
use Rattle.concatenation.specs.Concatenation.{IsMember, SharesTree, IsConcatenation}
use Rattle.fst_concat.specs.Chosen.{IsFirstApart}
use Rattle.fst_concat.specs.Parts.{merge_label, merged, joined_with, joined, ArePartsUpTo}

-- the label at a place after a merge
pub merged-at : (from to : ℕ) (labels : List ℕ) (i : ℕ) → i < length labels
    → slice_index (merged from to labels) i ≡ merge_label from to (slice_index labels i)
merged-at from to [] i within = absurd (omega arith)
merged-at from to (label ∷ labels) zero within = refl
merged-at from to (label ∷ labels) (suc i) within = merged-at from to labels i (omega arith)

-- a merge keeps the number of labels
pub length-merged : (from to : ℕ) (labels : List ℕ) → length (merged from to labels) ≡ length labels
length-merged from to [] = refl
length-merged from to (label ∷ labels) = ap suc (length-merged from to labels)

pub length-joined_with : (first : ℕ) (rest labels : List ℕ) → length (joined_with first rest labels) ≡ length labels
length-joined_with first [] labels = refl
length-joined_with first (member ∷ rest) labels = length-joined_with first rest _ ∙ length-merged _ _ labels

-- the one label goes to the other
merge_label-from : (from to : ℕ) → merge_label from to from ≡ to
merge_label-from from to = grind arith

merge_label-to : (from to : ℕ) → merge_label from to to ≡ to
merge_label-to from to = grind arith

-- equal labels stay equal
merged-keeps : (from to : ℕ) (labels : List ℕ) (i j : ℕ) → i < length labels → j < length labels
    → slice_index labels i ≡ slice_index labels j → slice_index (merged from to labels) i ≡ slice_index (merged from to labels) j
merged-keeps from to labels i j in_i in_j same =
    merged-at from to labels i in_i ∙ ap (merge_label from to) same ∙ sym (merged-at from to labels j in_j)

-- .. and so do they where members are joined
joined_with-keeps : (first : ℕ) (rest labels : List ℕ) (i j : ℕ) → i < length labels → j < length labels
    → slice_index labels i ≡ slice_index labels j
    → slice_index (joined_with first rest labels) i ≡ slice_index (joined_with first rest labels) j
joined_with-keeps first [] labels i j in_i in_j same = same
joined_with-keeps first (member ∷ rest) labels i j in_i in_j same =
    let from : ℕ = slice_index labels member in
    let to : ℕ = slice_index labels first in
    let size : length (merged from to labels) ≡ length labels = length-merged from to labels in
    joined_with-keeps first rest (merged from to labels) i j (omega (arith, size)) (omega (arith, size))
    (merged-keeps from to labels i j in_i in_j same)

-- the further members are below the number of labels after a merge
below_after : (first member : ℕ) (rest labels : List ℕ) (from to : ℕ) → All (λ i. i < length labels) (member ∷ rest)
    → All (λ i. i < length (merged from to labels)) rest
below_after first member rest labels from to below = λ i d inside.
    let size : length (merged from to labels) ≡ length labels = length-merged from to labels in
    let here : slice_index_or rest i d < length labels = below (suc i) d (omega arith) in
    omega (arith, size, here)

-- a further member has the label of the first one, from its merge on
joined_with-meets : (first : ℕ) (rest labels : List ℕ) (k d : ℕ) → first < length labels → All (λ i. i < length labels) rest
    → k < length rest
    → slice_index (joined_with first rest labels) (slice_index_or rest k d) ≡ slice_index (joined_with first rest labels) first
joined_with-meets first [] labels k d in_first below within = absurd (omega arith)
joined_with-meets first (member ∷ rest) labels zero d in_first below within =
    let from : ℕ = slice_index labels member in
    let to : ℕ = slice_index labels first in
    let size : length (merged from to labels) ≡ length labels = length-merged from to labels in
    let in_member : member < length labels = below 0 0 (omega arith) in
    joined_with-keeps first rest (merged from to labels) member first (omega (arith, size)) (omega (arith, size))
    (grind (arith, merged-at (slice_index labels member) (slice_index labels first) labels member in_member, merge_label-from (slice_index labels member) (slice_index labels first), merged-at (slice_index labels member) (slice_index labels first) labels first in_first, merge_label-to (slice_index labels member) (slice_index labels first)))
joined_with-meets first (member ∷ rest) labels (suc k) d in_first below within =
    let from : ℕ = slice_index labels member in
    let to : ℕ = slice_index labels first in
    let size : length (merged from to labels) ≡ length labels = length-merged from to labels in
    joined_with-meets first rest (merged from to labels) k d (omega (arith, size)) (below_after first member rest labels from to below) (omega arith)

-- .. each member
joined-meets : (first : ℕ) (rest labels : List ℕ) (i : ℕ) → first < length labels → All (λ i. i < length labels) rest
    → Contains (first ∷ rest) i
    → slice_index (joined_with first rest labels) i ≡ slice_index (joined_with first rest labels) first
joined-meets first rest labels i in_first below (zero, inside, is) = ap (slice_index (joined_with first rest labels)) (sym is)
joined-meets first rest labels i in_first below (suc k, inside, is) =
    sym (ap (slice_index (joined_with first rest labels)) is) ∙ joined_with-meets first rest labels k i in_first below (omega arith)

-- a label is the one and becomes the other, or stays
label_of : (from to x : ℕ) → ((x ≡ from) × (merge_label from to x ≡ to)) ⊎ (merge_label from to x ≡ x)
label_of from to x = grind (arith, x == from, eqb-true)

-- Where terminals of one label are related, and the merged ones are, those of one label are related after the merge.
merged-related : (R : ℕ → ℕ → Type 0) → ((i j : ℕ) → R i j → R j i) → ((i j k : ℕ) → R i j → R j k → R i k)
    → (labels : List ℕ) (member first : ℕ) → member < length labels → first < length labels → R member first
    → ((i j : ℕ) → i < length labels → j < length labels → slice_index labels i ≡ slice_index labels j → R i j)
    → (i j : ℕ) → i < length labels → j < length labels
    → slice_index (merged (slice_index labels member) (slice_index labels first) labels) i
    ≡ slice_index (merged (slice_index labels member) (slice_index labels first) labels) j → R i j
merged-related R back onward labels member first in_member in_first related same_related i j in_i in_j same =
    let from : ℕ = slice_index labels member in
    let to : ℕ = slice_index labels first in
    let same_label : merge_label from to (slice_index labels i) ≡ merge_label from to (slice_index labels j) =
    sym (merged-at from to labels i in_i) ∙ same ∙ merged-at from to labels j in_j in
    ⊎_elim (λ equal. same_related i j in_i in_j equal)
    (λ two. ⊎_elim
    (λ (is_from, is_to). onward i member j (same_related i member in_i in_member is_from)
    (onward member first j related (same_related first j in_first in_j (sym is_to))))
    (λ (is_to, is_from). onward i first j (same_related i first in_i in_first is_to)
    (onward first member j (back member first related) (same_related member j in_member in_j (sym is_from))))
    two)
    (grind (arith, label_of from to (slice_index labels j), label_of from to (slice_index labels i)))

-- .. and where all members are related to the first one, after all merges
joined_with-related : (R : ℕ → ℕ → Type 0) → ((i j : ℕ) → R i j → R j i) → ((i j k : ℕ) → R i j → R j k → R i k)
    → (first : ℕ) (rest labels : List ℕ) → first < length labels → All (λ i. i < length labels) rest → All (λ i. R i first) rest
    → ((i j : ℕ) → i < length labels → j < length labels → slice_index labels i ≡ slice_index labels j → R i j)
    → (i j : ℕ) → i < length labels → j < length labels
    → slice_index (joined_with first rest labels) i ≡ slice_index (joined_with first rest labels) j → R i j
joined_with-related R back onward first [] labels in_first below related same_related = same_related
joined_with-related R back onward first (member ∷ rest) labels in_first below related same_related = λ i j in_i in_j same.
    let from : ℕ = slice_index labels member in
    let to : ℕ = slice_index labels first in
    let size : length (merged from to labels) ≡ length labels = length-merged from to labels in
    joined_with-related R back onward first rest (merged from to labels) (omega (arith, size))
    (below_after first member rest labels from to below)
    (λ k d inside. related (suc k) d (omega arith))
    (λ x y in_x in_y equal. merged-related R back onward labels member first (below 0 0 (omega arith)) in_first
    (related 0 0 (omega arith)) same_related x y (omega (arith, size)) (omega (arith, size)) equal)
    i j (omega (arith, size)) (omega (arith, size)) same

-- ---- the trees of a set, one after the other

-- each tree's members are below n
abbrev pub AreBelow : ℕ → List Tree → Type 0
AreBelow n trees = (k : ℕ) (tree : Tree) → slice_get trees k ≡ Some tree → All (λ i. i < n) (members_of tree.code)

-- the tree at the place joins terminals of one label, where it is in the set
abbrev IsClosedAt : List Tree → List Bool → ℕ → List ℕ → Type 0
IsClosedAt trees set p labels = (tree : Tree) (i j : ℕ) → slice_get set p ≡ Some true → slice_get trees p ≡ Some tree
    → IsMember tree i → IsMember tree j → slice_index labels i ≡ slice_index labels j

-- equal items in an option are equal
some_same : {X : Type 0} {x y : X} → Some x ≡ Some y → x ≡ y
some_same same = (cc)

-- a chain of trees can be gone back
pub SharesTree-back : (trees : List Tree) (set : List Bool) (i j : ℕ) → Leads (SharesTree trees set) i j → Leads (SharesTree trees set) j i
SharesTree-back trees set i j led = Leads-back (SharesTree trees set) (SharesTree trees set)
    (λ u w (k, tree, inside, at, first, second). (k, tree, inside, at, second, first)) i j led

-- a tree that is no part of the set changes nothing
pub ArePartsUpTo-skip : (n : ℕ) (trees : List Tree) (set : List Bool) (place : ℕ) (labels : List ℕ) → ArePartsUpTo n trees set place labels
    → (slice_get set place ≡ Some true → ⊥) → ArePartsUpTo n trees set (place + 1) labels
ArePartsUpTo-skip n trees set place labels parts outside = grind arith

-- a tree of the set joins its members
join_case : (n : ℕ) (trees : List Tree) (set : List Bool) (place : ℕ) (tree : Tree) (labels : List ℕ)
    → ArePartsUpTo n trees set place labels → AreBelow n trees → slice_get set place ≡ Some true → slice_get trees place ≡ Some tree
    → (members : List ℕ) → members_of tree.code ≡ members → All (λ i. i < n) members
    → ArePartsUpTo n trees set (place + 1) (joined members labels)
join_case n trees set place tree labels parts all_below inside at [] is below = grind (arith, some_same)
join_case n trees set place tree labels parts all_below inside at (first ∷ rest) is below =
    let size : length labels ≡ n = parts.size in
    let after : length (joined_with first rest labels) ≡ length labels = length-joined_with first rest labels in
    let in_first : first < length labels = let h : first < n = below 0 0 (omega arith) in omega arith in
    let in_rest : All (λ i. i < length labels) rest =
    λ k d within. let h : slice_index_or rest k d < n = below (suc k) d (omega arith) in omega (arith, h) in
    let R : ℕ → ℕ → Type 0 = Leads (SharesTree trees set) in
    let member : (i : ℕ) → Contains (first ∷ rest) i → IsMember tree i =
    λ i here. subst (λ xs. Contains xs i) (sym is) here in
    record {
      size = after ∙ size;
      chains = λ i j in_i in_j same. joined_with-related R (SharesTree-back trees set)
          (λ x y z. Leads-trans (SharesTree trees set) x y z) first rest labels in_first in_rest
          (λ k d within. Leads-more (SharesTree trees set) (slice_index_or rest k d) (slice_index_or rest k d) first
          (Leads-start (SharesTree trees set) (slice_index_or rest k d)) (
            place,
            tree,
            inside,
            at,
            member (slice_index_or rest k d) (All-contains_itself (first ∷ rest) (suc k) d (omega arith)),
            member first (All-contains_itself (first ∷ rest) 0 first (omega arith)),
          ))
          (λ x y in_x in_y equal. parts.chains x y (omega arith) (omega arith) equal)
          i j (omega arith) (omega arith) same;
      closed = λ k other i j lower. below_more (λ p. IsClosedAt trees set p (joined_with first rest labels)) place
          (λ p under here u v in_set at_here one two.
          joined_with-keeps first rest labels u v
          (let h : u < n = All-contains (λ x. x < n) (members_of here.code) u (all_below p here at_here) one in omega arith)
          (let h : v < n = All-contains (λ x. x < n) (members_of here.code) v (all_below p here at_here) two in omega arith)
          (parts.closed p here u v under in_set at_here one two))
          (λ here u v in_set at_here one two.
          let same : here ≡ tree = some_same (sym at_here ∙ at) in
          let as_listed : (x : ℕ) → IsMember here x → Contains (first ∷ rest) x =
          λ x h. subst (λ xs. Contains xs x) is (subst (λ t. IsMember t x) same h) in
          joined-meets first rest labels u in_first in_rest (as_listed u one)
          ∙ sym (joined-meets first rest labels v in_first in_rest (as_listed v two)))
          k lower other i j;
    }

pub ArePartsUpTo-join : (n : ℕ) (trees : List Tree) (set : List Bool) (place : ℕ) (tree : Tree) (labels : List ℕ)
    → ArePartsUpTo n trees set place labels → AreBelow n trees → slice_get set place ≡ Some true → slice_get trees place ≡ Some tree
    → ArePartsUpTo n trees set (place + 1) (joined (members_of tree.code) labels)
ArePartsUpTo-join n trees set place tree labels parts all_below inside at =
    join_case n trees set place tree labels parts all_below inside at (members_of tree.code) refl (all_below place tree at)

-- ---- what the labels say once all trees are gone through

-- where all labels are equal, the set is a concatenation
pub all_alike : (n : ℕ) (trees : List Tree) (set : List Bool) (labels : List ℕ) → length set ≡ length trees
    → ArePartsUpTo n trees set (length trees) labels
    → ((i : ℕ) → i < length labels → slice_index labels i ≡ slice_index labels 0) → IsConcatenation n trees set
all_alike n trees set labels size parts alike = grind arith

-- a terminal that the terminal 0 is joined to has its label
pub joined_alike : (n : ℕ) (trees : List Tree) (set : List Bool) (labels : List ℕ) (i : ℕ) → length set ≡ length trees
    → ArePartsUpTo n trees set (length trees) labels → Leads (SharesTree trees set) 0 i
    → slice_index labels i ≡ slice_index labels 0
joined_alike n trees set labels i size parts led =
    Leads-keeps (SharesTree trees set) (λ x. slice_index labels x ≡ slice_index labels 0) 0 i refl
    (λ u w so_far (k, tree, inside, at, first, second).
    parts.closed k tree w u (omega (arith, slice_get_within trees k tree at)) inside at second first ∙ so_far) led

-- the first terminal of another label is the first apart
pub first_apart-is : (n : ℕ) (trees : List Tree) (set : List Bool) (labels : List ℕ) (place : ℕ) → length set ≡ length trees
    → ArePartsUpTo n trees set (length trees) labels → place < length labels
    → (slice_index labels place ≡ slice_index labels 0 → ⊥)
    → ((i : ℕ) → i < place → slice_index labels i ≡ slice_index labels 0) → IsFirstApart n trees set place
first_apart-is n trees set labels place size parts within other before = record {
  within = omega (arith, parts.size);
  apart = λ led. other (joined_alike n trees set labels place size parts led);
  before = λ i below. let same : length labels ≡ n = parts.size in
      parts.chains 0 i (omega arith) (omega arith) (sym (before i below));
}

-- where all labels aren't equal, the set is no concatenation
pub apart_fails : (n : ℕ) (trees : List Tree) (set : List Bool) (place : ℕ) → IsFirstApart n trees set place
    → IsConcatenation n trees set → ⊥
apart_fails n trees set place apart joins = apart.apart (joins.joins place apart.within)

-- a tree in an option
pub tree_of : (found : Option Tree) (members : List ℕ) → option_map tree_members found ≡ Some members
    → (tree : Tree) × (found ≡ Some tree) × (members_of tree.code ≡ members)
tree_of None members at = (cc)
tree_of (Some tree) members at = (tree, refl, some_same at)

-- the trees whose members are listed have them below n
pub listed_below : (n : ℕ) (trees : List Tree) (listed : List (List ℕ)) → IsListed n trees listed → AreBelow n trees
listed_below n trees listed is = λ k tree at. is.below k (members_of tree.code) (ap (λ xs. slice_get xs k) is.same ∙ slice_get-map tree_members trees k ∙ ap (option_map tree_members) at)

-- a listed tree of the set joins its members
pub ArePartsUpTo-join_listed : (n : ℕ) (trees : List Tree) (listed : List (List ℕ)) (set : List Bool) (place : ℕ) (members labels : List ℕ)
    → IsListed n trees listed → ArePartsUpTo n trees set place labels → slice_get set place ≡ Some true
    → slice_get listed place ≡ Some members → ArePartsUpTo n trees set (place + 1) (joined members labels)
ArePartsUpTo-join_listed n trees listed set place members labels is parts inside at =
    grind (arith, slice_get-map, tree_of, ArePartsUpTo-join, listed_below n trees listed is)

-- what the first terminal of another label says of the set
pub apart_answer : (n : ℕ) (trees : List Tree) (set : List Bool) (labels : List ℕ) (answer : Option ℕ) → length set ≡ length trees
    → ArePartsUpTo n trees set (length trees) labels
    → IfNone answer ((i : ℕ) → i < length labels → slice_index labels i ≡ slice_index labels 0)
    → IfSome answer (λ place. place < length labels)
    → IfSome answer (λ place. slice_index labels place ≡ slice_index labels 0 → ⊥)
    → IfSome answer (λ place. (i : ℕ) → i < place → slice_index labels i ≡ slice_index labels 0)
    → MatchOption answer (IsConcatenation n trees set) (IsFirstApart n trees set)
apart_answer n trees set labels None size parts alike within other before = all_alike n trees set labels size parts alike
apart_answer n trees set labels (Some place) size parts alike within other before =
    first_apart-is n trees set labels place size parts within other before

-- as many members are listed as there are trees
pub listed_length : (n : ℕ) (trees : List Tree) (listed : List (List ℕ)) → IsListed n trees listed → length listed ≡ length trees
listed_length n trees listed is = ap length is.same ∙ length-map trees tree_members

-- the set is no concatenation where a terminal is apart
pub apart_some : (n : ℕ) (trees : List Tree) (set same : List Bool) (answer : Option ℕ)
    → MatchOption answer (IsConcatenation n trees set) (IsFirstApart n trees set) → is_some answer ≡ true → set ≡ same
    → ¬ IsConcatenation n trees same
apart_some n trees set same None holds test equal = (cc)
apart_some n trees set same (Some place) holds test equal = λ joins.
    apart_fails n trees set place holds (subst (IsConcatenation n trees) (sym equal) joins)

-- .. and is one where none is
pub apart_none : (n : ℕ) (trees : List Tree) (set same : List Bool) (answer : Option ℕ)
    → MatchOption answer (IsConcatenation n trees set) (IsFirstApart n trees set) → is_some answer ≡ false → set ≡ same
    → IsConcatenation n trees same
apart_none n trees set same None holds test equal = subst (IsConcatenation n trees) equal holds
apart_none n trees set same (Some place) holds test equal = (cc)
