-- `put_embargo_section` meets its contract: the entries, and then their count before them. Assumes nothing.
use Prim.Native.Nat.{ℕ, ◌/◌}
use mathlib.Core.Path.{◌≡◌}
use native.Mathlib.Omega.{arith}
use lib.Dec.{lit<}
use Rattle.image.specs.Image.{embargo_entries}
use Rattle.image.proofs.SectionLaws.{wide_embargoes, counted}
use Rattle.image.proofs.sections.put_embargo_section.Goals as goal

-- an entry of one byte: as many bytes as entries
by_one : (n : ℕ) → n / 1 ≡ n
by_one n = omega arith

pub returns-clause-wrote : goal.returns-clause-wrote
returns-clause-wrote c =
    let a = c.args in
    counted 1 (lit< tt) (embargo_entries a.sizes a.contents.now.embargoed) (wide_embargoes a.sizes a.contents.now.embargoed) c.put_embargoes-past.ensures.wrote
    (rw by_one c.put_count.ensures)
