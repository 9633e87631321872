use Rattle.std.proofs.Common.{◌≡◌, ◌++◌, length, take, Ok, rules}
use Rattle.rst_outside.specs.ShelfLaws.{of_file_so, begins_more}
use Rattle.rst_outside.proofs.take.shelf.take_some.Goals as goal

-- What was read stands behind the bytes, as it does in the file.
pub returns-clause-came : goal.returns-clause-came
returns-clause-came g c =
    let read : c.read_at.result ≡ Ok c.in_ok-n.n = search rules in
    let at : c.len.result ≡ length c.args.bytes.now.items = search rules in
    let told = rw (read, at) at c.read_at.ensures.bytes in
    let items : c.extend_from_slice.new.self.items ≡ c.args.bytes.now.items ++ take c.in_ok-n.n c.read_at.new.into = search rules in
    of_file_so _ _ _ _ (λ file came begun. rw items (begins_more _ file _ c.in_ok-n.n came begun)) told
