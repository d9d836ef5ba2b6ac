-- What the arguments mean: each by its text and its place, and what they ask for together.
use Rattle.std.specs.Prelude.{ℕ, Bool, true, false, cond, ◌&&◌, ◌||◌, not, List, [], ◌∷◌, eqb, leb, Some, None}
use Rattle.std.specs.declared.option.Option.{Option}
use Rattle.stepfile.specs.Text.{bytes}
use Rattle.stepfile.specs.Grammar.{same}
use Rattle.options.specs.declared.options.Argument.{Argument}
use Rattle.options.specs.declared.options.Argument.TheVariants.{Name, Stdin, Dashes, Help, Version}
use Rattle.options.specs.declared.options.Argument.TheVariants.{WriteImage, ReadImage, ImageName, NoName}
use Rattle.options.specs.declared.options.Argument.TheVariants.{Repeated, Unknown}
use Rattle.options.specs.declared.options.Request.{Request}
use Rattle.options.specs.declared.options.Act.{Act}
use Rattle.options.specs.declared.options.Act.TheVariants.{Nothing, RefuseName, PrintHelp, PrintVersion}
use Rattle.options.specs.declared.options.Act.TheVariants.{RefuseInputs, PlayStdin, PlayNames}

-- the text begins with a dash
abbrev pub dashed : List ℕ → Bool
dashed [] = false
dashed (b ∷ l) = eqb b 45

-- An option for an image, which may come once: its name has no place before.
abbrev pub once : Option ℕ → Argument → Argument
once None option = option
once (Some place) option = Repeated

-- the place of a name, after an option; 0 is the place of the program's own name, and no option's
abbrev pub place_of : ℕ → Option ℕ
place_of next = cond (eqb next 0) None (Some next)

-- The name of an image stands at this place; the program's own name is read as one.
abbrev pub is_at : Option ℕ → ℕ → Bool
is_at None place = eqb place 0
is_at (Some named) place = eqb named place

-- What stands for the name of an image's file: an image is neither read from standard input nor written to standard
-- output.
unfoldable pub image_name_of : List ℕ → Argument
image_name_of text = cond (same text (bytes "-")) NoName ImageName

unfoldable pub option_of : Request → List ℕ → Argument
option_of r text =
    cond (same text (bytes "--")) Dashes
    (cond (same text (bytes "--help")) Help
    (cond (same text (bytes "--version")) Version
    (cond (same text (bytes "--write-image")) (once r.written WriteImage)
    (cond (same text (bytes "--read-image")) (once r.read ReadImage)
    Unknown))))

-- An argument by its place, counted from 1, and its text, after those that the request has. What follows an option for
-- an image is the name of its file, also where it begins with a dash; after `--` there is no option.
unfoldable pub argument_of : Request → ℕ → List ℕ → Argument
argument_of r place text =
    cond (is_at r.written place || is_at r.read place) (image_name_of text)
    (cond (same text (bytes "-")) Stdin
    (cond (r.dashes || not (dashed text)) Name
    (option_of r text)))

abbrev pub no_request : Request
no_request =
    record {
      named = false;
      several = false;
      dashes = false;
      help = false;
      version = false;
      refused = false;
      written = None;
      read = None;
    }

-- one input more is named
abbrev pub with_name : Request → Request
with_name r =
    record {
      named = true;
      several = r.named;
      dashes = r.dashes;
      help = r.help;
      version = r.version;
      refused = r.refused;
      written = r.written;
      read = r.read;
    }

-- one argument is not understood
abbrev pub with_refusal : Request → Request
with_refusal r =
    record {
      named = r.named;
      several = r.several;
      dashes = r.dashes;
      help = r.help;
      version = r.version;
      refused = true;
      written = r.written;
      read = r.read;
    }

-- What the arguments so far and one more ask for. `next` is the place after it: there stands the name of an image.
abbrev pub with_argument : Request → Argument → ℕ → Request
with_argument r Name next = with_name r
with_argument r Stdin next = with_name r
with_argument r Dashes next =
    record {
      named = r.named;
      several = r.several;
      dashes = true;
      help = r.help;
      version = r.version;
      refused = r.refused;
      written = r.written;
      read = r.read;
    }
with_argument r Help next =
    record {
      named = r.named;
      several = r.several;
      dashes = r.dashes;
      help = true;
      version = r.version;
      refused = r.refused;
      written = r.written;
      read = r.read;
    }
with_argument r Version next =
    record {
      named = r.named;
      several = r.several;
      dashes = r.dashes;
      help = r.help;
      version = true;
      refused = r.refused;
      written = r.written;
      read = r.read;
    }
with_argument r WriteImage next =
    record {
      named = r.named;
      several = r.several;
      dashes = r.dashes;
      help = r.help;
      version = r.version;
      refused = r.refused;
      written = place_of next;
      read = r.read;
    }
with_argument r ReadImage next =
    record {
      named = r.named;
      several = r.several;
      dashes = r.dashes;
      help = r.help;
      version = r.version;
      refused = r.refused;
      written = r.written;
      read = place_of next;
    }
with_argument r ImageName next = r
with_argument r NoName next = with_refusal r
with_argument r Repeated next = with_refusal r
with_argument r Unknown next = with_refusal r

-- an image is given, by the place of its name; and that place is past the last of so many arguments
abbrev pub is_given : Option ℕ → Bool
is_given None = false
is_given (Some place) = true

abbrev pub is_missing : Option ℕ → ℕ → Bool
is_missing None count = false
is_missing (Some place) count = leb count place

abbrev pub has_image : Request → Bool
has_image r = is_given r.written || is_given r.read

abbrev pub lacks_name : Request → ℕ → Bool
lacks_name r count = is_missing r.written count || is_missing r.read count

-- The first that fits: an argument that is not understood, or an image without a name, stops everything; then `--help`,
-- then `--version`. A session has one input, so two or more beside an image stop everything too. Then come the inputs
-- that are named, with headings where there are two or more; then standard input.
abbrev pub act_of : Request → ℕ → Act
act_of r count =
    cond r.refused Nothing
    (cond (lacks_name r count) (RefuseName (is_missing r.written count))
    (cond r.help PrintHelp
    (cond r.version PrintVersion
    (cond (r.several && has_image r) (RefuseInputs (is_given r.written))
    (cond r.named (PlayNames r.several)
    PlayStdin)))))
