-- The list of a file's trees, as an answer of a tool.
use Rattle.std.specs.Prelude.{ℕ, List}
use Rattle.printed_texts.specs.Trees.{tree_list_text}
use Rattle.tree_tools.specs.declared.listing.Listing.{Listing}

abbrev pub listing_text : Listing → List ℕ
listing_text l = tree_list_text l.file.points l.pieces l.file.trees
