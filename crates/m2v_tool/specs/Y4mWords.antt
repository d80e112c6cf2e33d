-- The words of `encode-y4m`.
use Rattle.std.specs.Prelude.{List, [], ◌∷◌, ◌++◌, Option, codes, option_and_then}
use Rattle.clap.specs.Walk.{Rule, Text}
use Rattle.clap.specs.Simple.{App}
use Rattle.m2v_y4m.specs.declared.header.Y4mHeader.{Y4mHeader}
use Rattle.m2v_tool.specs.EncodeWords.{Meant, meant_of, numbers, others}
use Rattle.m2v_tool.specs.Simple.{simple, required_option, taken}

-- the options behind `encode-y4m`: those of `encode` without the sizes and the rate
abbrev pub y4m_needed : List Rule
y4m_needed = required_option (codes "bits") ∷ required_option (codes "buffer") ∷ []

abbrev pub y4m_app : App
y4m_app = simple (codes "encode-y4m") (y4m_needed ++ (numbers ++ others))

-- What they mean, where `clap` takes them. The sizes and the rate, which no option gives, are 0 here: the header of the
-- text has them.
unfoldable pub y4m_meant : List Text → Option Meant
y4m_meant words = option_and_then meant_of (taken y4m_app words)

-- the same with the sizes and the rate of a header
abbrev pub with_header : Y4mHeader → Meant → Meant
with_header h m = record {
  settings = record m.settings { width = h.width; height = h.height; rate_code = h.rate_code };
  recon = m.recon;
}
