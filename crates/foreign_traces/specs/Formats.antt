-- Formats of request traces.
use Rattle.command_words.specs.Geometry.{Shape}
use Rattle.foreign_traces.specs.declared.request_trace.RequestFormat.{RequestFormat}
use Rattle.foreign_traces.specs.declared.request_trace.RequestFormat.TheVariants.{ReadWrite, LoadStore, Dramsim3}

-- the shape of the subchannel whose lines a format's places or addresses name
abbrev pub shape_in : RequestFormat → Shape
shape_in (ReadWrite g) = g
shape_in (LoadStore mapping) = mapping.geometry
shape_in (Dramsim3 mapping) = mapping.geometry
