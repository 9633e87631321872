-- What is proposed for parts and items, as far as others rest on it.
use Rattle.std.specs.Prelude.{ℕ, List, ◌<◌, ◌≤◌, All, length, IfSome}
use Rattle.partition_fit.specs.declared.proposal.Level.{Level}
use Rattle.partition_fit.specs.declared.proposal.Proposal.{Proposal}

-- the labels name parts
abbrev pub HasLabelsBelow : ℕ → Level → Type 0
HasLabelsBelow parts level = All (λ label. label < parts) level.labels

-- levels of a chain of so many parts: at most 49
pub record IsChainOf (parts : ℕ) (levels : List Level) : Type 0 where
  pub labels : All (HasLabelsBelow parts) levels
  pub few : length levels ≤ 49

-- what is proposed names parts and items alone
pub record IsInRange (parts count : ℕ) (proposal : Proposal) : Type 0 where
  pub levels : IsChainOf parts proposal.levels.items
  pub chosen : All (λ number. number < count) proposal.chosen.items
  pub split : IfSome proposal.split (λ number. number < count)
