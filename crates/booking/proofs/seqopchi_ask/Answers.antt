-- Asking, as C calls it: a refusal, or the four numbers.
use Rattle.booking.proofs.AskCalls.{no_places, places_are}
use Rattle.booking.proofs.seqopchi_ask.Goals as goal

pub returns-in-Err : goal.returns-in-Err
returns-in-Err c = no_places _ c.ask_files.ensures _ c.in-Err.is c.result_number.ensures

pub returns-in-Ok : goal.returns-in-Ok
returns-in-Ok c = places_are _ c.ask_files.ensures _ c.told-places c.in-Ok.is
