-- RD and WR, and the requests that they serve.
use Rattle.std.proofs.Common.{◌≡◌, ℕ, false, Option, Some, None, refl, ap, ◌∙◌, subst}
use Rattle.std.specs.Prelude.{option_map, is_some, IsTrue}
use Rattle.command_words.specs.Command.{bank_number}
use Rattle.command_words.specs.Geometry.{Shape}
use Rattle.command_words.specs.Place.{line_of}
use Rattle.command_words.specs.declared.place.Bank.{Bank}
use Rattle.command_words.specs.declared.command.Command.{Command}
use Rattle.command_words.specs.declared.command.Command.TheVariants.{Act, Rd, Wr, PrePb, PreSb, PreAb, RefAb, RefSb, RfmAb, RfmSb, Mrw, Ecs, Nop}
use Rattle.command_words.specs.Kinds.{is_rd, is_wr}
use Rattle.speed_bin.specs.Log.{Log, open_at}
use Rattle.speed_bin.specs.Rules.{rule_4}
use Rattle.requests.specs.declared.request.Kind.{Kind}
use Rattle.requests.specs.declared.request.Kind.TheVariants.{Read as Reads, Write as Writes}
use Rattle.reports.specs.Requests.{Request}
use Rattle.reports.specs.Accesses.{Access, access_of, line_in, access_at, IsColumn}

-- ---- What a column command reads or writes, where its bank is open

pub access-rd : (g : Shape) (bank : Bank) (column row line : ℕ) (log : Log) → open_at (bank_number bank) log ≡ Some row → line_of (record { bank = bank; row = row; column = column }) g ≡ line → access_at g (Rd bank column) log ≡ Some (record { line = line; kind = Reads })
access-rd g bank column row line log e f =
    ap (λ o. option_map (λ line. record { line = line; kind = Reads }) (line_in g bank column o)) e ∙ ap (λ l. Some (record { line = l; kind = Reads })) f

pub access-wr : (g : Shape) (bank : Bank) (column row line : ℕ) (log : Log) → open_at (bank_number bank) log ≡ Some row → line_of (record { bank = bank; row = row; column = column }) g ≡ line → access_at g (Wr bank column) log ≡ Some (record { line = line; kind = Writes })
access-wr g bank column row line log e f =
    ap (λ o. option_map (λ line. record { line = line; kind = Writes }) (line_in g bank column o)) e ∙ ap (λ l. Some (record { line = l; kind = Writes })) f

-- ---- A command without a request is no RD or WR

abbrev accessed : Kind → ℕ → Access
accessed kind line = record { line = line; kind = kind }

opened : (g : Shape) (bank : Bank) (column : ℕ) (kind : Kind) (o : Option ℕ) → IsTrue (is_some o) → option_map (accessed kind) (line_in g bank column o) ≡ None → ⊥
opened g bank column kind None is_open e = cc
opened g bank column kind (Some row) is_open e = cc

pub none-column : (g : Shape) (command : Command) (log : Log) → IsTrue (rule_4 command log) → access_at g command log ≡ None → (is_rd command ≡ false) × (is_wr command ≡ false)
none-column g (Act bank row) log is_open e = (refl, refl)
none-column g (Rd bank column) log is_open e = absurd (opened g bank column Reads (open_at (bank_number bank) log) is_open e)
none-column g (Wr bank column) log is_open e = absurd (opened g bank column Writes (open_at (bank_number bank) log) is_open e)
none-column g (PrePb bank) log is_open e = (refl, refl)
none-column g (PreSb address) log is_open e = (refl, refl)
none-column g PreAb log is_open e = (refl, refl)
none-column g RefAb log is_open e = (refl, refl)
none-column g (RefSb address) log is_open e = (refl, refl)
none-column g RfmAb log is_open e = (refl, refl)
none-column g (RfmSb address) log is_open e = (refl, refl)
none-column g (Mrw write) log is_open e = (refl, refl)
none-column g Ecs log is_open e = (refl, refl)
none-column g Nop log is_open e = (refl, refl)

-- ---- A command with a request is an RD or WR, as the request asks

kind_is : (kind : Kind) (o : Option ℕ) (g : Shape) (bank : Bank) (column : ℕ) (r : Request) → option_map (accessed kind) (line_in g bank column o) ≡ Some (access_of r) → kind ≡ r.kind
kind_is kind None g bank column r e = cc
kind_is kind (Some row) g bank column r e =
    let a : Access = record { line = line_of (record { bank = bank; row = row; column = column }) g; kind = kind } in
    let f : a ≡ access_of r = cc in ap (λ (v : Access). v.kind) f

pub some-column : (g : Shape) (command : Command) (log : Log) (r : Request) → access_at g command log ≡ Some (access_of r) → IsColumn r.kind command
some-column g (Rd bank column) log r e = subst (λ k. IsColumn k (Rd bank column)) (kind_is Reads (open_at (bank_number bank) log) g bank column r e) refl
some-column g (Wr bank column) log r e = subst (λ k. IsColumn k (Wr bank column)) (kind_is Writes (open_at (bank_number bank) log) g bank column r e) refl
some-column g (Act bank row) log r e = cc
some-column g (PrePb bank) log r e = cc
some-column g (PreSb address) log r e = cc
some-column g PreAb log r e = cc
some-column g RefAb log r e = cc
some-column g (RefSb address) log r e = cc
some-column g RfmAb log r e = cc
some-column g (RfmSb address) log r e = cc
some-column g (Mrw write) log r e = cc
some-column g Ecs log r e = cc
some-column g Nop log r e = cc
