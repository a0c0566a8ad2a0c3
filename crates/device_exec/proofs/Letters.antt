-- The lines that a script and a report have in common.
use Rattle.std.proofs.Common.{◌≡◌, ◌∙◌, ℕ, Bool, true, bytes_eq, List, [], ◌∷◌, codes, ap, refl}
use Rattle.std.proofs.lemmas.Slice.Eq.{bytes_eq-Decides}
use Rattle.command_words.specs.Geometry.{Shape}
use Rattle.ddr_text.specs.Grammar.{fields_of}
use Rattle.ddr_text.specs.ReportGrammar.{end_line_of, issued_line_of, report_line_of, report_line_of_fields}
use Rattle.device_exec.specs.ScriptGrammar.{of_report}

named : (text letter name : List ℕ) (fields : List (List ℕ)) → fields_of text ≡ letter ∷ fields → bytes_eq letter name ≡ true → fields_of text ≡ name ∷ fields
named text letter name fields e is = e ∙ ap (λ l. l ∷ fields) ((bytes_eq-Decides letter name).0 is)

report_c : (g : Shape) (text : List ℕ) (fields : List (List ℕ)) → fields_of text ≡ codes "C" ∷ fields → report_line_of g text ≡ issued_line_of g fields
unfolding report_line_of report_line_of_fields fields_of
report_c g [] fields e = absurd cc
report_c g (byte ∷ bytes) fields e = rw e refl

report_e : (g : Shape) (text : List ℕ) (fields : List (List ℕ)) → fields_of text ≡ codes "E" ∷ fields → report_line_of g text ≡ end_line_of fields
unfolding report_line_of report_line_of_fields fields_of
report_e g [] fields e = absurd cc
report_e g (byte ∷ bytes) fields e = rw e refl

pub issued_is : (g : Shape) (text letter : List ℕ) (fields : List (List ℕ)) → fields_of text ≡ letter ∷ fields → bytes_eq letter (codes "C") ≡ true → of_report (report_line_of g text) ≡ of_report (issued_line_of g fields)
issued_is g text letter fields e is = ap of_report (report_c g text fields (named text letter (codes "C") fields e is))

pub end_is : (g : Shape) (text letter : List ℕ) (fields : List (List ℕ)) → fields_of text ≡ letter ∷ fields → bytes_eq letter (codes "E") ≡ true → of_report (report_line_of g text) ≡ of_report (end_line_of fields)
end_is g text letter fields e is = ap of_report (report_e g text fields (named text letter (codes "E") fields e is))
