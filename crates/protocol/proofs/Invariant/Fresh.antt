-- The fresh file: nobody has it open, and nothing is held. It leads to the promise fresh. Assumes nothing.
use Prim.Native.Nat.{ℕ, ◌≤◌}
use mathlib.Core.Path.{refl}
use mathlib.Core.Bool.{false, false≢true}
use mathlib.Core.Logic.{⊎_elim}
use mathlib.Core.List.{[]}
use native.Mathlib.Omega.{arith}
use lib.ListN.{length-replicate}
use borrow.Author.Tests.{le-ltb}
use Rattle.sizes.specs.Sizes.{nobody}
use Rattle.records.specs.Version.{first_version}
use Rattle.records.specs.Record.{not_open}
use Rattle.protocol.specs.Client.{no_client}
use Rattle.protocol.proofs.View.{fresh_view}
use Rattle.protocol.proofs.Invariant.{Sound, Running}
use Rattle.protocol.proofs.Invariant.Flags.{conflict}
use Rattle.protocol.proofs.Invariant.Last.{last_none}
use Rattle.protocol.proofs.Invariant.Book.{fresh_booked}
use Rattle.decision.proofs.Beyond.{get_d_alike}

fresh_sound : (n : ℕ) → Sound n first_version (λ s. no_client) (λ s. 0) (λ s. false) (λ s. false) 0
fresh_sound n =
    record {
      clients = record {
        version_not_zero = refl;
        beyond = λ _ _. refl;
        own = λ s. record {
          caching_is_open = λ p. absurd (false≢true p);
          marked_excludes = λ m. absurd (false≢true m);
          marked_open_caches = λ m. absurd (false≢true m);
          label_not_ahead = omega arith;
          caching_has_latest = λ x. absurd (⊎_elim false≢true false≢true x);
          writer_owns_latest = λ w. absurd (false≢true w);
        };
        apart = λ s t _. record {
          caching_writer_alone = λ p. absurd (false≢true p);
          marked_excludes = λ m. absurd (false≢true m);
          writer_bars_caching = λ w. absurd (false≢true w);
          writer_owns_latest = λ w. absurd (false≢true w);
          marked_owns_latest = λ m. absurd (false≢true m);
        };
      };
      copied = λ s. record { dirty_is_held = λ d. d; dirty_is_owned = λ d. absurd (false≢true d); held_is_right = λ y. absurd (false≢true y) };
    }

pub fresh_kept : (n : ℕ) → n ≤ nobody → Running n (fresh_view n) []
fresh_kept n bound =
    record {
      sound = fresh_sound n;
      booked = fresh_booked;
      table = record {
        size = length-replicate n not_open;
        known = λ s _. get_d_alike n not_open s;
        last_writer = last_none bound (λ _ _ m. false≢true m);
      };
      calls = length-replicate n 0;
      waiting = λ w. absurd (conflict w (le-ltb nobody n bound));
    }
