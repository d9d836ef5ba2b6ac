-- The whole run of the counter: from the fresh service or a given one on, what the program writes until the session is done
-- are the numbers of all traces of what it read, however the input was cut into pieces; and the arrays then hold the
-- service after all lines. Assumes nothing.
use Prim.Native.Nat.{ℕ, ◌+◌}
use mathlib.Core.Path.{◌≡◌, refl, sym, ap, ◌∙◌}
use mathlib.Core.Bool.{Bool, true}
use mathlib.Core.List.{List, [], ◌∷◌, ◌++◌}
use Rattle.sizes.specs.Sizes.{default_sizes}
use Rattle.service.specs.declared.service.Service.{Service}
use Rattle.service.specs.Fresh.{fresh}
use Rattle.stepfile.specs.Played.{service_after, end_of}
use Rattle.stepfile.specs.Transcript.{lines, transcript, after}
use Rattle.stepfile.proofs.Longest.{no_step}
use Rattle.stepfile.proofs.LongLines.{Blind, reply_blind}
use Rattle.telling.specs.Run.{Leg, input}
use Rattle.telling.proofs.WholeRun.{run-tells, run-comes}
use Rattle.trace.specs.Counted.{counted_all}
use Rattle.trace.specs.Number.{total_at, at_most, number_in}
use Rattle.counting.specs.Printed.{traffic_text}
use Rattle.counting.specs.LineTrace.{stations_of, trace_in}
use Rattle.counting.specs.Lines.{Counted, uncounted, counted_line, counted_text, counting}
use Rattle.counting.specs.Run.{Follows, output, at_end}
use Rattle.counting.specs.Traffic.{traces_of, traffic_from, traffic_file}
use Rattle.counting.proofs.Alike.{traffic_alike}
use Rattle.counting.proofs.Traces.{service_after_lem, total_is}
use Rattle.protocol.specs.declared.step.Step.{Step}
use Rattle.std.proofs.Common.{Option}

module _ (settable : Bool) where
  -- of a line of more than 87 bytes the same is counted, whatever it is: nothing
  blind : Blind (counting settable).say (counting settable).next
  blind =
      record {
        says = λ c n l m l-long m-long. refl;
        goes = λ c n l m l-long m-long.
            ap (λ (s : Service). record { service = s; totals = (counted_line settable c n l).totals })
            ((reply_blind settable).goes c.service n l m l-long m-long)
            ∙ ap
            (λ (p : Option Step).
            record {
              service = service_after settable c.service n m;
              totals = counted_all (stations_of c.service) (trace_in c.service p) c.totals;
            })
            (no_step l l-long ∙ sym (no_step m m-long));
      }

  silent : (ls : List (List ℕ)) (c : Counted) (n : ℕ) → transcript (counting settable).say (counting settable).next c n ls ≡ []
  unfolding transcript
  silent [] c n = refl
  silent (l ∷ ls) c n = silent ls (counted_line settable c n l) (n + 1)

  -- the totals at the end, printed, are the numbers of all traces
  text_is : (s : Service) (bytes : List ℕ) → counted_text (after (counted_line settable) (uncounted s) 1 (lines bytes)) ≡ traffic_from settable s bytes
  text_is s bytes =
      let last = after (counted_line settable) (uncounted s) 1 (lines bytes) in
      ap (λ (x : Service). traffic_text (stations_of x) (total_at last.totals)) (service_after_lem settable (lines bytes) (uncounted s) 1)
      ∙ traffic_alike (stations_of (end_of settable s bytes)) (total_at last.totals)
      (λ i c. at_most (number_in i c (traces_of settable s 1 (lines bytes))))
      (total_is settable s (lines bytes))

-- from a start
module _
    (settable : Bool) (s : Service) (buffer : List ℕ) (gs : List Leg)
    (w : Follows settable s buffer gs) (ended : (at_end settable s gs).done ≡ true) where
  pub run_counts : output settable s gs ≡ traffic_from settable s (input gs)
  run_counts =
      run-tells (counting settable) (blind settable) (uncounted s) buffer gs w ended
      ∙ ap (λ (x : List ℕ). x ++ counted_text (after (counted_line settable) (uncounted s) 1 (lines (input gs))))
      (silent settable (lines (input gs)) (uncounted s) 1)
      ∙ text_is settable s (input gs)

  -- the service that stands then is the one after all lines
  pub run_ends : (at_end settable s gs).state.service ≡ end_of settable s (input gs)
  run_ends =
      ap (λ (c : Counted). c.service) (run-comes (counting settable) (blind settable) (uncounted s) buffer gs w ended)
      ∙ service_after_lem settable (lines (input gs)) (uncounted s) 1

pub whole_run : (buffer : List ℕ) (gs : List Leg)
    → Follows true (fresh default_sizes) buffer gs
    → (at_end true (fresh default_sizes) gs).done ≡ true
    → output true (fresh default_sizes) gs ≡ traffic_file (input gs)
unfolding traffic_file
whole_run buffer gs w ended = run_counts true (fresh default_sizes) buffer gs w ended
