-- `write_image` meets its contract, by the refusal; and the service that it is given fits its fields. Assumes nothing.
use mathlib.Core.Path.{ap, ◌∙◌}
use mathlib.Core.List.{◌++◌}
use native.Mathlib.Omega.{arith}
use lib.ListN.{drop}
use Rattle.std.proofs.lemmas.Result.{err_from_is_err_and}
use Rattle.table.specs.TableStep.{no_entry}
use Rattle.image.proofs.HeldFits.{held_fits}
use Rattle.image.proofs.Outcomes.{refused, accepted}
use Rattle.image.proofs.Waiting.{any_counted}
use Rattle.image.proofs.writing.write_image.Goals as goal

pub returns-in_err-refusal_to_write : goal.returns-in_err-refusal_to_write
returns-in_err-refusal_to_write c =
    let a = c.args in
    let s = a.service in
    let z = c.in_force-sizes in
    let fits = held_fits s _ c.well_formed.0 in
    let waits = c.some_open_waits-waits.ensures ∙ any_counted _ s.server.table.files no_entry z.result.files (omega (arith, fits.entries)) in
    let outcome = refused s a.out.now z.result z.ensures.value _ _ _ c.put_image-length.ensures.wrote _ waits _ c.refusal_to_write.ensures _ c.in_err-refusal_to_write.was in
    let told = err_from_is_err_and c.from_residual.result c.from_residual.ensures.1 in
    record {
      value = rw (told.1, told.2) outcome.0;
      out_after = outcome.1.0;
      tells = rw (told.1, told.2) outcome.1.1;
      fits = fits;
    }

pub returns : goal.returns
returns c =
    let a = c.args in
    let s = a.service in
    let z = c.in_force-sizes in
    let fits = held_fits s _ c.well_formed.0 in
    let waits = c.some_open_waits-waits.ensures ∙ any_counted _ s.server.table.files no_entry z.result.files (omega (arith, fits.entries)) in
    let outcome = accepted s a.out.now z.result z.ensures.value _ _ _ c.put_image-length.ensures.wrote _ waits _ c.refusal_to_write.ensures _ c.in_ok-refusal_to_write.was (ap (λ l. l ++ drop c.put_image-length.result a.out.now) c.copy_from_slice.ensures.after) in
    record {
      value = outcome.0;
      out_after = outcome.1.0;
      tells = outcome.1.1;
      fits = fits;
    }
