-- The words of `encode`.
use Rattle.std.specs.Prelude.{List, [], ◌∷◌, ◌++◌, Option, Some, None, option_map, option_and_then, string_bytes, codes, unwrap_or, if◌then◌else◌}
use Rattle.std.specs.Str.{bytes_eq}
use Rattle.clap.specs.Walk.{Row, Rule, Text, first_of}
use Rattle.clap.specs.Simple.{App}
use Rattle.m2v_set.specs.declared.settings.Settings.{Settings}
use Rattle.m2v_set.specs.declared.settings.Scan.{Scan}
use Rattle.m2v_set.specs.declared.settings.Scan.TheVariants.{Progressive, Frames, Fields}
use Rattle.m2v_set.specs.declared.settings.Level.{Level}
use Rattle.m2v_set.specs.declared.settings.Level.TheVariants as levels
use Rattle.m2v_set.specs.declared.settings.Planning.{Planning}
use Rattle.m2v_set.specs.declared.settings.Planning.TheVariants.{Weights, Even}
use Rattle.m2v_tool.specs.declared.encode.EncodeWords.{EncodeWords}
use Rattle.m2v_tool.specs.Simple.{simple, required_option, number_option, text_option, flag_option, taken, number_in, number_or, required, flag}

-- what words say: the settings, and the name of the file for reconstructions
pub record Meant : Type 0 where
  pub settings : Settings
  pub recon : Option Text

abbrev pub words_of : EncodeWords → Meant
words_of w = record { settings = w.settings; recon = option_map string_bytes w.recon }

-- the options behind `encode`: numbers that are required, numbers that may be given, and others
abbrev pub needed : List Rule
needed = required_option (codes "width") ∷ required_option (codes "height")
    ∷ required_option (codes "rate") ∷ required_option (codes "bits")
    ∷ required_option (codes "buffer") ∷ []

abbrev pub numbers : List Rule
numbers = number_option (codes "delay") ∷ number_option (codes "group")
    ∷ number_option (codes "step") ∷ number_option (codes "search")
    ∷ number_option (codes "aspect") ∷ number_option (codes "workers") ∷ []

abbrev pub others : List Rule
others = text_option (codes "scan") ∷ text_option (codes "level") ∷ text_option (codes "plan")
    ∷ flag_option (codes "closed") ∷ flag_option (codes "pulldown") ∷ text_option (codes "recon") ∷ []

abbrev pub encode_app : App
encode_app = simple (codes "encode") (needed ++ (numbers ++ others))

-- how frames are scanned, by its word
unfoldable pub scan_named : Text → Option Scan
scan_named word =
    if bytes_eq word (codes "progressive") then Some Progressive
    else if bytes_eq word (codes "frames") then Some Frames
    else if bytes_eq word (codes "fields") then Some Fields else None

-- a level, by its word
unfoldable pub level_named : Text → Option Level
level_named word =
    if bytes_eq word (codes "main") then Some levels.Main
    else if bytes_eq word (codes "high1440") then Some levels.High1440
    else if bytes_eq word (codes "high") then Some levels.High else None

-- how bits are shared, by its word
unfoldable pub plan_named : Text → Option Planning
plan_named word =
    if bytes_eq word (codes "weights") then Some Weights
    else if bytes_eq word (codes "even") then Some Even else None

-- these where they are given, and else progressive frames, Main level, and the plan by weights
unfoldable pub scan_in : List Row → Option Scan
scan_in rows = scan_named (unwrap_or (first_of (codes "scan") rows) (codes "progressive"))

unfoldable pub level_in : List Row → Option Level
level_in rows = level_named (unwrap_or (first_of (codes "level") rows) (codes "main"))

unfoldable pub plan_in : List Row → Option Planning
plan_in rows = plan_named (unwrap_or (first_of (codes "plan") rows) (codes "weights"))

-- the settings, with the numbers that stand where none is given
unfoldable pub settings_of : List Row → Scan → Level → Planning → Settings
settings_of rows scan level planning = record {
  width = required (codes "width") rows;
  height = required (codes "height") rows;
  rate_code = required (codes "rate") rows;
  bits = required (codes "bits") rows;
  buffer = required (codes "buffer") rows;
  delay = number_in (codes "delay") rows;
  group = number_or (codes "group") 12 rows;
  step = number_or (codes "step") 3 rows;
  closed = flag (codes "closed") rows;
  scan = scan;
  search = number_or (codes "search") 15 rows;
  aspect = number_or (codes "aspect") 2 rows;
  workers = number_or (codes "workers") 1 rows;
  pulldown = flag (codes "pulldown") rows;
  level = level;
  planning = planning;
}

unfoldable pub meant_of : List Row → Option Meant
meant_of rows =
    option_and_then (λ scan. option_and_then (λ level. option_map (λ planning. record {
      settings = settings_of rows scan level planning;
      recon = first_of (codes "recon") rows;
    }) (plan_in rows)) (level_in rows)) (scan_in rows)

-- What the words behind `encode` mean, where `clap` takes them and the words for scan, level and plan are such.
unfoldable pub encode_meant : List Text → Option Meant
encode_meant words = option_and_then meant_of (taken encode_app words)
