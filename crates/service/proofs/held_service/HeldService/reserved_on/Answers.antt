-- `reserved_on` meets its contract: none where no flag of the file is set. Assumes nothing.
use Prim.Native.Nat.{ℕ, ◌+◌, ◌<◌}
use mathlib.Core.Path.{◌≡◌, sym, ap, ◌∙◌}
use mathlib.Core.Bool.{Bool, false, not, ◌&&◌}
use mathlib.Core.List.{List}
use native.Mathlib.Omega.{arith}
use lib.ListN.{get_or}
use Rattle.sizes.specs.declared.sizes.Sizes.{Sizes}
use Rattle.sizes.specs.Sizes.{Permitted, max_blocks, first_cell}
use Rattle.blocks.proofs.Wrapped.{wrapped_cell}
use Rattle.service.specs.Counted.{is_anew, counted_held, anew_on}
use Rattle.service.proofs.Counting.{count_false}
use Rattle.service.proofs.held_service.HeldService.reserved_on.Goals as goal

clean : (d k : Bool) → d ≡ false → (d && k) ≡ false
clean d k e = rw e

-- no flag from base on is set
none-anew :
    (z : Sizes) (i f base : ℕ) (flags dirty : List Bool)
    → Permitted z
    → base ≡ first_cell i f
    → ((b : ℕ) → b < max_blocks → get_or dirty (base + b) false ≡ false)
    → 0 ≡ anew_on z i flags dirty f
none-anew z i f base flags dirty p e off =
    sym
    (count_false _ (is_anew z.clients i flags dirty f)
    (λ b h.
    clean (get_or dirty (first_cell i f + b) false) (not (counted_held z.clients flags dirty f b))
    (ap (λ x. get_or dirty (x + b) false) (sym e) ∙ off b (omega (arith, h, p)))))

pub returns-then-not-is_any_dirty-clause-reserved : goal.returns-then-not-is_any_dirty-clause-reserved
returns-then-not-is_any_dirty-clause-reserved c =
    let a = c.args in
    none-anew a.sizes a.client a.file c.first_cell.result a.self.now.flags a.self.now.stores.dirty
    c.requires.permitted
    (c.first_cell.ensures.value ∙ wrapped_cell a.client a.file c.requires.client_lt_max_clients c.requires.file_lt_max_files)
    (c.is_any_dirty.ensures c.if-not-is_any_dirty.true)
