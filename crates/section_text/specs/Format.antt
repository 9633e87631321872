-- What a format has of its own among the texts of sections.
use Rattle.std.specs.Prelude.{ℕ, ◌≡◌, ◌≤◌, ◌<◌, ◌^◌, List, [], ◌∷◌, ◌++◌, length}
use Rattle.text_in.specs.Words.{IsWord}
use Rattle.points_in.specs.declared.point.Point.{Point}
use Rattle.text_in.specs.Lines.{IsLineOfWords}
use Rattle.section_text.specs.declared.fault.LineFault.{LineFault}

-- X is an item, F a fault and V what is read.
pub record Format (X F V : Type 0) : Type 1 where
  -- the words of the first line, the word before the count of the items, and how many these are at most
  pub title : List (List ℕ)
  pub kind : List ℕ
  pub most : ℕ
  -- the line of an item, and which items a line can spell, right or not
  pub item_words : X → List (List ℕ)
  pub IsSpelled : X → Type 0
  -- the fault that each format has, as this one tells it, and want of memory
  pub fault_of : LineFault → F
  pub IsMemory : F → Type 0
  -- the points are right together, or what is wrong with them
  pub PointsFit : List Point → Type 0
  pub IsPointsFault : List Point → F → Type 0
  -- an item is right about the points and behind these items, or what is wrong with it in a line of this number
  pub Follows : List Point → List X → X → Type 0
  pub IsItemFault : List Point → List X → ℕ → X → F → Type 0
  -- items that are right, each behind those before it
  pub AreItems : List Point → List X → Type 0
  -- points and items make this value, or what is wrong with the whole
  pub value_of : List Point → List X → V
  pub IsWhole : List Point → List X → Type 0
  pub IsWholeFault : List Point → List X → F → Type 0

-- What is right has no fault, and what is wrong has one.
pub record IsSettled {F : Type 0} (right : Type 0) (fault : F → Type 0) : Type 0 where
  pub none : right → (f : F) → fault f → ⊥
  pub one : (f g : F) → fault f → fault g → f ≡ g

-- What is asked of a format.
pub record IsLawful {X F V : Type 0} (fm : Format X F V) : Type 0 where
  pub title : IsLineOfWords fm.title
  pub kind : IsWord fm.kind
  pub few : fm.most < 2 ^ 32
  -- a line spells one item, which is made of words
  pub one_item : (x y : X) → fm.IsSpelled x → fm.IsSpelled y → fm.item_words x ≡ fm.item_words y → x ≡ y
  pub item_line : (x : X) → fm.IsSpelled x → IsLineOfWords (fm.item_words x)
  pub spelled : (ps : List Point) (xs : List X) (x : X) → length ps ≤ 50 → fm.Follows ps xs x → fm.IsSpelled x
  -- each judgement is settled
  pub points : (ps : List Point) → IsSettled (fm.PointsFit ps) (fm.IsPointsFault ps)
  pub item : (ps : List Point) (xs : List X) (n : ℕ) (x : X) → IsSettled (fm.Follows ps xs x) (fm.IsItemFault ps xs n x)
  pub whole : (ps : List Point) (xs : List X) → IsSettled (fm.IsWhole ps xs) (fm.IsWholeFault ps xs)
  -- a list of items is right where each item is behind those before it
  pub none : (ps : List Point) → fm.AreItems ps []
  pub push : (ps : List Point) (xs : List X) (x : X) → fm.AreItems ps xs → fm.Follows ps xs x →
      fm.AreItems ps (xs ++ x ∷ [])
  pub next : (ps : List Point) (xs rest : List X) (x : X) → fm.AreItems ps (xs ++ x ∷ rest) → fm.Follows ps xs x
