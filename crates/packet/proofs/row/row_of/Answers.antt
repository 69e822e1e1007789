-- `packet::row::row_of` meets its contract: the row of each kind. Assumes nothing.
use borrow.Author.Tests.{ne_eqb}
use native.Mathlib.Omega.{arith}
use Rattle.octets.proofs.Choice.{T_and}
use Rattle.packet.specs.Row.{no_number, columns, with_held, with_all, message_row}
use Rattle.packet.specs.Inner.{is_indicator, is_verdict, is_message}
use Rattle.packet.proofs.Laws.Rows.{row-request, row-response, row-end-request, row-end, own_row}
use Rattle.packet.proofs.row.row_of.Goals as goal

pub returns-in-ReceiveRequest : goal.returns-in-ReceiveRequest
unfolding is_message
returns-in-ReceiveRequest c =
    let m = c.in-ReceiveRequest in
    let i = c.indicated.ensures in
    own_row m.is i.1 (rw (c.row_with.ensures, i.0, m.is) (row-request _ _ _ m.indicator))

pub returns-in-ReceiveResponse : goal.returns-in-ReceiveResponse
unfolding is_message
returns-in-ReceiveResponse c =
    let m = c.in-ReceiveResponse in
    let i = c.indicated-in-ReceiveResponse.ensures in
    let v = c.cause_of.ensures in
    own_row m.is (T_and (is_verdict m.verdict) (is_indicator m.indicator) v.1 i.1)
    (rw (c.row_with-in-ReceiveResponse.ensures, i.0, v.0, c.result_of.ensures, m.is) (row-response _ m.verdict m.indicator))

pub returns-in-EndRequest : goal.returns-in-EndRequest
unfolding is_message
returns-in-EndRequest c =
    let m = c.in-EndRequest in
    let i = c.indicated-in-EndRequest.ensures in
    own_row m.is i.1 (rw (c.row_with-in-EndRequest.ensures, i.0, m.is) (row-end-request _ _ m.indicator))

pub returns-in-EndResponse : goal.returns-in-EndResponse
unfolding is_message message_row columns with_all with_held
returns-in-EndResponse c =
    let m = c.in-EndResponse in
    own_row m.is tt (rw (c.row_with-in-EndResponse.ensures, m.is))

pub returns-in-TransmissionEnd : goal.returns-in-TransmissionEnd
unfolding is_message
returns-in-TransmissionEnd c =
    let m = c.in-TransmissionEnd in
    let i = c.indicated-in-TransmissionEnd.ensures in
    let cause = ne_eqb m.cause no_number (λ e. omega arith) in
    own_row m.is (rw cause i.1) (rw (c.row_with-in-TransmissionEnd.ensures, i.0, m.is) (row-end _ _ m.indicator))

pub returns-in-TransmissionEndResponse : goal.returns-in-TransmissionEndResponse
unfolding is_message message_row columns with_all
returns-in-TransmissionEndResponse c =
    let m = c.in-TransmissionEndResponse in
    own_row m.is tt (rw (c.row_with-in-TransmissionEndResponse.ensures, m.is))

pub returns-in-Ack : goal.returns-in-Ack
unfolding is_message message_row columns with_all with_held
returns-in-Ack c =
    let m = c.in-Ack in
    let source = ne_eqb m.source no_number (λ e. omega arith) in
    let about = ne_eqb m.about no_number (λ e. omega arith) in
    own_row m.is (rw (source, about) tt) (rw (c.row_with-in-Ack.ensures, m.is))
