use Rattle.speed_bin.proofs.Present.{has_banks}
use Rattle.present_banks.proofs.Agreeing.{page_agrees, ready}
use Rattle.present_banks.proofs.laws.open_page.Goals as goal

pub returns : goal.returns
returns c = record { keeps_page = λ h log ok inside. page_agrees h log (ready h ok) (has_banks h log inside) }
