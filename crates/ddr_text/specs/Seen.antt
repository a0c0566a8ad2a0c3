-- What the kind of a line is, as the definitions have it.
use Rattle.ddr_text.specs.Separator.{Role, Ends, Faulty, Text}
use Rattle.ddr_text.specs.declared.separator.LineRole.{LineRole}
use Rattle.ddr_text.specs.declared.separator.LineRole.TheVariants as line

abbrev pub seen_role : LineRole → Role
seen_role (line.Ends version) = Ends version
seen_role line.Faulty = Faulty
seen_role line.Text = Text
