-- The sizes in force lie inside their ranges, whatever was given, so that each client, file and block has its
-- place in the arrays. Assumes nothing.
use Prim.Native.Nat.{ℕ, ◌≤◌, ◌<◌}
use mathlib.Core.Path.{subst⁻¹}
use mathlib.Core.Bool.{Bool, cond}
use native.Mathlib.Omega.{arith}
use lib.Dec.{leb, lit≤, lit<}
use borrow.Author.Tests.{leb-true}
use Rattle.sizes.proofs.Choosing.{split, and_left, and_right}
use Rattle.sizes.specs.declared.sizes.Sizes.{Sizes}
use Rattle.sizes.specs.Sizes.{max_clients, max_files, max_blocks, max_places, is_permitted, at_most, in_force, Permitted}

-- a size that is permitted, or else the default
inside :
    (most size otherwise : ℕ)
    → 0 < otherwise
    → otherwise ≤ most
    → (0 < cond (is_permitted most size) size otherwise) × (cond (is_permitted most size) size otherwise ≤ most)
inside most size otherwise some fits =
    let Inside : Bool → Type 0 = λ b. (0 < cond b size otherwise) × (cond b size otherwise ≤ most) in
    split (is_permitted most size)
    (λ e.
    let low = leb-true 1 size (and_left (leb 1 size) (leb size most) e) in
    let high = leb-true size most (and_right (leb 1 size) (leb size most) e) in
    subst⁻¹ Inside e (low, high))
    (λ e. subst⁻¹ Inside e (some, fits))

pub at_most_lem : (most n : ℕ) → at_most most n ≤ most
at_most_lem most n =
    let Low : Bool → Type 0 = λ b. cond b n most ≤ most in
    split (leb n most) (λ e. subst⁻¹ Low e (leb-true n most e)) (λ e. subst⁻¹ Low e (omega arith))

pub in_force_permitted : (z : Sizes) → Permitted (in_force z)
in_force_permitted z =
    let clients = inside 8 z.clients 8 (lit< tt) (lit≤ tt) in
    let files = inside 64 z.files 32 (lit< tt) (lit≤ tt) in
    let blocks = inside 8 z.blocks 4 (lit< tt) (lit≤ tt) in
    record {
      clients = clients.1;
      files = files.1;
      blocks = blocks.1;
      store = at_most_lem max_places z.store;
      some_client = clients.0;
      some_file = files.0;
      some_block = blocks.0;
    }

module _ {z : Sizes} (most : Permitted z) where
  pub client_fits : {i : ℕ} → i < z.clients → i < max_clients
  client_fits below = let fits = most.clients in omega arith

  pub file_fits : {f : ℕ} → f < z.files → f < max_files
  file_fits below = let fits = most.files in omega arith

  pub block_fits : {b : ℕ} → b < z.blocks → b < max_blocks
  block_fits below = let fits = most.blocks in omega arith
