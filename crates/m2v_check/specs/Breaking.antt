-- What is told of a broken rule, and the pictures that the rules are asked about.
use Rattle.std.specs.Prelude.{◌||◌, not, List, [], ◌∷◌, ◌++◌, Option, Some, None}
use Rattle.std.specs.Option.{option_map}
use Rattle.m2v_plane.specs.Fields.{or_none}
use Rattle.m2v_model.specs.declared.notes.PictureNote.{PictureNote}
use Rattle.m2v_model.specs.States.{is_frame}
use Rattle.m2v_model.specs.Pictures.{Picture}
use Rattle.m2v_model.specs.Lawful.{Breach, Breaches, breach, Numbered}
use Rattle.m2v_check.specs.declared.broken.BrokenRule.{BrokenRule}
use Rattle.m2v_check.specs.declared.coded.CodedPicture.{CodedPicture}

-- the breach that is told
abbrev pub told : BrokenRule → Breach
told b = breach b.rule b.picture b.have b.need

-- the first of two
abbrev pub first_some : {A : Type 0} → Option A → Option A → Option A
first_some (Some a) b = Some a
first_some None b = b

-- the first of some breaches
abbrev pub first_of : Breaches → Option Breach
first_of [] = None
first_of (b ∷ bs) = Some b

-- what is found of some breaches: the first
abbrev pub untold : Breach → BrokenRule
untold b = record { rule = b.rule; picture = b.picture; have = b.have; need = b.need }

abbrev pub found : Breaches → Option BrokenRule
found bs = option_map untold (first_of bs)

-- the breach that is told at one place where a rule may be broken, and those of several in turn
abbrev pub told_at : Option BrokenRule → Breaches
told_at None = []
told_at (Some b) = told b ∷ []

abbrev pub told_by : List (Option BrokenRule) → Breaches
told_by [] = []
told_by (o ∷ os) = told_at o ++ told_by os

-- what a note tells of a picture; its samples are of no matter to the rules
abbrev pub noted_picture : PictureNote → Picture
noted_picture n = record {
  info = n.info;
  extension = n.extension;
  begins_frame = n.first;
  ends_frame = is_frame n.extension || not n.first;
  dropped = n.dropped;
  crowded_row = n.crowded;
  frame = or_none None;
}

-- a picture among the others; the numbers of its group and of its frame are of no matter to the rules that look at one
-- picture alone
abbrev pub numbered_of : CodedPicture → Numbered
numbered_of p = record {
  number = p.number;
  sequence = p.sequence;
  group = 0;
  first_in_group = p.first_in_group;
  frame = 0;
  picture = noted_picture p.note;
}
