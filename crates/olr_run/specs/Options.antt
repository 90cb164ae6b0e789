-- What the command-line arguments ask for.
--     keep_app      the program's arguments, -m FILE, -s, --lines, -l LOG, --new and --compact-at SIZE, beside the flags for
--         help and the version
--     Options, options arguments      what they ask for, by clap's matches of the arguments
--     is_help kind      the error is no fault: help or the version is wanted
--     IsOptionsFault kinds fault      clap's error is of one of these kinds, or an allocation failed
use Rattle.std.specs.Prelude.{◌≡◌, ℕ, Bool, true, false, List, Option, Some, None, option_map, codes, ⊤}
use Rattle.std.specs.Str.{bytes_eq}
use Rattle.clap.specs.Kinds.{Kinds, IsAmong}
use Rattle.clap.specs.Simple.{App, on_top, new_app, new_rule, with_rule, matches_of}
use Rattle.clap.specs.Values.{kind_of}
use Rattle.clap.specs.Walk.{Rule, first_of}
use Rattle.clap.specs.declared.builder.action.ArgAction.TheVariants.{Set, SetTrue}
use Rattle.clap.specs.declared.error.Error.{Error}
use Rattle.clap.specs.declared.error.kind.ErrorKind.{ErrorKind}
use Rattle.clap.specs.declared.error.kind.ErrorKind.TheVariants as kind
use Rattle.olr_run.specs.declared.arguments.Options.{Options as Arguments}
use Rattle.olr_run.specs.declared.arguments.OptionsFault.{OptionsFault}
use Rattle.olr_run.specs.declared.arguments.OptionsFault.TheVariants.{Help, Wrong, Memory}

abbrev pub described_app : App
described_app = on_top (λ s. record s { has_version = true }) (new_app (codes "olr-keep"))

-- an argument with a value, and one without
abbrev pub value_rule : List ℕ → Rule
value_rule id = record (new_rule id) { action = Some Set; value_names = 1 }

abbrev pub flag_rule : List ℕ → Rule
flag_rule id = record (new_rule id) { action = Some SetTrue }

-- the same, by a letter, or by a long name
abbrev pub with_short : ℕ → Rule → Rule
with_short letter r = record r { short = Some letter }

abbrev pub with_long : List ℕ → Rule → Rule
with_long name r = record r { long = Some name }

-- those that a run without a log has, too
abbrev pub unlogged_app : App
unlogged_app =
    with_rule
    (with_rule (with_rule described_app (with_short 109 (value_rule (codes "file"))))
    (with_short 115 (flag_rule (codes "stop"))))
    (with_long (codes "lines") (flag_rule (codes "lines")))

abbrev pub keep_app : App
keep_app =
    with_rule
    (with_rule (with_rule unlogged_app (with_short 108 (value_rule (codes "log"))))
    (with_long (codes "new") (flag_rule (codes "new"))))
    (with_long (codes "compact-at") (value_rule (codes "compact-at")))

-- the size at which a log is compacted is as it was written
pub record Options : Type 0 where
  pub file : Option (List ℕ)
  pub stop : Bool
  pub lines : Bool
  pub log : Option (List ℕ)
  pub new : Bool
  pub compact_at : Option (List ℕ)

-- the text of a flag that is set
abbrev pub is_set : Option (List ℕ) → Bool
is_set None = false
is_set (Some text) = bytes_eq text (codes "true")

abbrev pub options : List (List ℕ) → Options
options arguments =
    record {
      file = first_of (codes "file") (matches_of keep_app arguments);
      stop = is_set (first_of (codes "stop") (matches_of keep_app arguments));
      lines = is_set (first_of (codes "lines") (matches_of keep_app arguments));
      log = first_of (codes "log") (matches_of keep_app arguments);
      new = is_set (first_of (codes "new") (matches_of keep_app arguments));
      compact_at = first_of (codes "compact-at") (matches_of keep_app arguments);
    }

abbrev pub options_of : Arguments → Options
options_of o =
    record {
      file = option_map (λ s. s.now) o.file;
      stop = o.stop;
      lines = o.lines;
      log = option_map (λ s. s.now) o.log;
      new = o.new;
      compact_at = option_map (λ s. s.now) o.compact_at;
    }

-- help and the version are wanted; the other kinds are faults
abbrev pub is_help : ErrorKind → Bool
is_help kind.DisplayHelp = true
is_help kind.DisplayVersion = true
is_help _ = false

abbrev pub IsOptionsFault : Kinds → OptionsFault Error → Type 0
IsOptionsFault kinds (Help e) = IsAmong (kind_of e) kinds × (is_help (kind_of e) ≡ true)
IsOptionsFault kinds (Wrong e) = IsAmong (kind_of e) kinds × (is_help (kind_of e) ≡ false)
IsOptionsFault kinds Memory = ⊤
