-- What a tool finds in the graph that a text gives.
use Rattle.std.specs.Prelude.{ℕ, List, Result, Ok, Err}
use Rattle.net_graph.specs.Graph.{Graph}

-- What is found in the graph that the bytes give, by what a reading makes of them; or why they give none.
abbrev pub FindsIn : {A : Type 0} → {F : Type 0} → (List ℕ → Result Graph F → Type 0) → (Graph → A → Type 0) →
    List ℕ → Result A F → Type 0
FindsIn Reads Is bytes (Ok found) = (g : Graph) × Reads bytes (Ok g) × Is g found
FindsIn Reads Is bytes (Err fault) = Reads bytes (Err fault)
