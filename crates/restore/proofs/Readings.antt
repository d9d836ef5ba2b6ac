-- What reading answers and hands back, from the test that was made. Assumes nothing.
use Prim.Native.Nat.{ℕ}
use mathlib.Core.Path.{◌≡◌, sym, ◌∙◌}
use mathlib.Core.Bool.{Bool, true, false}
use mathlib.Core.List.{List}
use lib.ListN.{replicate}
use Rattle.sizes.proofs.Choosing.{when, unless}
use Rattle.sizes.specs.declared.sizes.Sizes.{Sizes}
use Rattle.sizes.specs.Sizes.{max_files}
use Rattle.protocol.specs.declared.entry.Entry.{Entry}
use Rattle.protocol.specs.declared.reply.Granting.{Granting}
use Rattle.protocol.specs.declared.reply.Reply.{Reply}
use Rattle.protocol.specs.declared.reply.Reply.TheVariants.{Refused, Done}
use Rattle.protocol.specs.declared.step.Step.TheVariants.{Crash}
use Rattle.protocol.specs.Reply.{no_calls, no_granting}
use Rattle.service.specs.declared.service.Service.{Service}
use Rattle.service.specs.Contents.{sizes_of}
use Rattle.service.specs.Demand3.{after}
use Rattle.image.specs.Image.{image_bytes}
use Rattle.restore.specs.Decoded.{decoded_files, decoded_used, decoded_blocks, decoded_embargoes}
use Rattle.restore.specs.Reading.{same_bytes, is_image, with_contents, reading_of}

module _
    (s : Service)
    (bytes : List ℕ)
    (z : Sizes)
    (force : z ≡ sizes_of s)
    (files : List Entry)
    (files-are : files ≡ decoded_files bytes)
    (used : List Bool)
    (used_are : used ≡ decoded_used bytes)
    (blocks : List ℕ)
    (blocks-are : blocks ≡ decoded_blocks bytes)
    (embargoed : List Bool)
    (embargoed-are : embargoed ≡ decoded_embargoes bytes)
    (none : Granting)
    (none_is : none ≡ no_granting)
    (t : Bool)
    (test : t ≡ same_bytes bytes (image_bytes z files used blocks embargoed)) where
  test_is : t ≡ is_image (sizes_of s) bytes
  unfolding is_image
  test_is = test ∙ (λ k. same_bytes bytes (image_bytes (force k) (files-are k) (used_are k) (blocks-are k) (embargoed-are k)))

  pub refused :
      t ≡ false
      → (reply : Reply)
      → reply ≡ Refused 17
      → record { service = s; reply = reply; calls = no_calls; grants = replicate max_files none }
      ≡ reading_of s bytes
  unfolding reading_of
  refused e reply number =
      (λ k. record { service = s; reply = number k; calls = no_calls; grants = replicate max_files (none_is k) })
      ∙ sym (unless _ _ (sym test_is ∙ e))

  pub accepted :
      t ≡ true
      → (crashed s' : Service)
      → crashed ≡ after s Crash
      → s' ≡ with_contents crashed files used blocks embargoed
      → record { service = s'; reply = Done; calls = no_calls; grants = replicate max_files none } ≡ reading_of s bytes
  unfolding reading_of
  accepted e crashed s' crash is =
      let service = is ∙ (λ k. with_contents (crash k) (files-are k) (used_are k) (blocks-are k) (embargoed-are k)) in
      (λ k. record { service = service k; reply = Done; calls = no_calls; grants = replicate max_files (none_is k) })
      ∙ sym (when _ _ (sym test_is ∙ e))
