-- The words of the commands: the first one names the command, and those behind it mean what `clap` makes of them.
use Rattle.std.specs.Prelude.{◌≡◌, true, List, [], ◌∷◌, Option, Some, option_map, codes}
use Rattle.clap.specs.Walk.{Row, Text}
use Rattle.clap.specs.Simple.{App}
use Rattle.m2v_set.specs.Numbers.{flat_dims}
use Rattle.m2v_set.specs.Rules.{FlatPasses, FlatUnfit}
use Rattle.m2v_set.specs.declared.unfit.Unfit.{Unfit}
use Rattle.m2v_flat.specs.declared.settings.FlatSettings.{FlatSettings}
use Rattle.m2v_tool.specs.declared.flat.FlatWords.{FlatWords}
use Rattle.m2v_tool.specs.declared.command.Command.{Command}
use Rattle.m2v_tool.specs.declared.command.Command.TheVariants.{Flat, Encode, Decode, Check, Audit, Mend, Make, Cut, Pack, Unpack, EncodeY4m}
use Rattle.m2v_tool.specs.EncodeWords.{encode_meant, words_of}
use Rattle.m2v_tool.specs.Decoding.{decode_meant}
use Rattle.m2v_tool.specs.Auditing.{audit_meant}
use Rattle.m2v_tool.specs.Mending.{list_named, mend_meant}
use Rattle.m2v_tool.specs.Making.{make_meant}
use Rattle.m2v_tool.specs.Cutting.{cut_meant}
use Rattle.m2v_tool.specs.Packing.{pack_meant}
use Rattle.m2v_tool.specs.Y4mWords.{y4m_meant}
use Rattle.m2v_tool.specs.Simple.{simple, number_word, taken, required, stands_alone}

-- the words behind `flat`: W H CODE Q
abbrev pub flat_app : App
flat_app = simple (codes "flat")
    (number_word (codes "W") ∷ number_word (codes "H")
    ∷ number_word (codes "CODE") ∷ number_word (codes "Q") ∷ [])

-- their numbers
unfoldable pub flat_of : List Row → FlatWords
flat_of rows = record {
  width = required (codes "W") rows;
  height = required (codes "H") rows;
  rate_code = required (codes "CODE") rows;
  quantiser = required (codes "Q") rows;
}

-- what they mean, where `clap` takes them
unfoldable pub flat_meant : List Text → Option FlatWords
flat_meant words = option_map flat_of (taken flat_app words)

-- what a word that names a command means with those behind it: a line a command
abbrev pub MeansBy : Text → List Text → Command → Type 0
MeansBy name others (Flat w) = (name ≡ codes "flat") × (flat_meant others ≡ Some w)
MeansBy name others (Encode w) =
    (name ≡ codes "encode") × (encode_meant others ≡ Some (words_of w))
MeansBy name others (Decode workers) =
    (name ≡ codes "decode") × (decode_meant others ≡ Some workers)
MeansBy name others Check =
    (name ≡ codes "check") × (stands_alone (codes "check") others ≡ true)
MeansBy name others (Audit w) = (name ≡ codes "audit") × (audit_meant others ≡ Some w)
MeansBy name others (Mend w) = (name ≡ codes "mend") × (mend_meant others ≡ Some (list_named w))
MeansBy name others (Make seed) = (name ≡ codes "make") × (make_meant others ≡ Some seed)
MeansBy name others (Cut w) = (name ≡ codes "cut") × (cut_meant others ≡ Some w)
MeansBy name others (Pack h) = (name ≡ codes "pack") × (pack_meant others ≡ Some h)
MeansBy name others Unpack =
    (name ≡ codes "unpack") × (stands_alone (codes "unpack") others ≡ true)
MeansBy name others (EncodeY4m w) =
    (name ≡ codes "encode-y4m") × (y4m_meant others ≡ Some (words_of w))

-- what words mean as a command
abbrev pub Means : List Text → Command → Type 0
Means [] c = ⊥
Means (name ∷ others) c = MeansBy name others c

-- words that mean none
abbrev pub NoCommand : List Text → Type 0
NoCommand words = (c : Command) → Means words c → ⊥

-- the settings of the flat profile that words are
abbrev pub settings_of : FlatWords → FlatSettings
settings_of w = record {
  dims = flat_dims w.width w.height;
  rate_code = w.rate_code;
  quantiser = w.quantiser;
}

-- whether these pass their part of the published test, and the first condition that fails
abbrev pub WordsPass : FlatWords → Type 0
WordsPass w = FlatPasses w.width w.height w.rate_code w.quantiser

abbrev pub WordsFail : FlatWords → Unfit → Type 0
WordsFail w u = FlatUnfit w.width w.height w.rate_code w.quantiser u
