-- The bench cases hold, each by computation. Assumes nothing.
use mathlib.Core.Path.{refl}
use Rattle.octets.specs as octets
use Rattle.sheet.specs as sheet
use Rattle.sheet_line.specs as sheet-line
use Rattle.sheet_text.specs as sheet-text
use Rattle.fields.specs as fields
use Rattle.kinds.specs as kinds
use Rattle.packet.specs as packet
use Rattle.plan.specs as plan
use Rattle.writing.specs as writing
use Rattle.streams.specs as streams
use Rattle.streams.specs.Record.{idle, ending}
use Rattle.reception.specs as reception
use Rattle.incoming.specs as incoming
use Rattle.outgoing.specs as outgoing
use Rattle.hex_line.specs as hex
use Rattle.shown.specs as shown
use Rattle.lines.specs as lines
use Rattle.look.specs as look
use Rattle.cases.specs.Bench.{sheet_with, users_s, bench, Bench}

-- one line and those after it
infixr 4 ◌and◌
◌and◌ : {A B : Type 0} → A → B → A × B
a and b = (a, b)

-- Both sides of every line compute to the same. What they compute by stands crate by crate.
pub bench-holds : Bench
unfolding bench sheet_with users_s lib.Count.ones
    mathlib.Core.List.flatten
    octets.Text.decimal octets.Hex.hex_value octets.Hex.hex_digit octets.Hex.is_hex octets.Hex.hex_octets octets.Buffer.padded octets.Big.big_at octets.Big.big_of
    sheet.Table.table sheet.Table.seat_row sheet.Table.number_lines sheet.Table.seats_line sheet.Table.most_seats sheet.Table.row_at sheet-line.Line.tail_of sheet-text.Text.text_from sheet-text.Text.text_of
    sheet-line.Line.line_of sheet-line.Line.digits_after sheet-line.Line.name_after sheet-line.Line.entry_in sheet.Judge.taken sheet.Judge.good_number sheet.Judge.user_id
    sheet.Judge.good_name sheet.Judge.good sheet.Judge.in_turn sheet.Judge.whole sheet.Judge.valid sheet-text.Reading.good_line sheet-text.Reading.behind
    sheet-text.Reading.read_by sheet-text.Reading.outcome sheet.Value.sheet_by sheet.Value.sheet_from sheet.Value.sheet_of sheet.Value.row_of sheet.Value.users_of
    sheet.Value.numbers_of sheet.Value.name_of sheet.Value.seat_entries sheet.Value.entries_of sheet.Value.same_rows sheet.Value.valid_with
    sheet.Value.valid_alone sheet-text.Reading.reading_of sheet-text.Reading.users_from sheet-text.Reading.read_of sheet-text.Reading.users_in sheet.Find.seat_of_ssrc
    sheet.Find.seat_of_user
    fields.Header.size_right fields.Header.version_right fields.Header.head_right fields.Header.ack_asked fields.Header.number_in fields.Header.ssrc_in
    fields.Header.letters_in fields.Walk.to_word fields.Walk.value_end fields.Walk.next_at fields.Walk.zeros fields.Walk.padding fields.Walk.field_right
    fields.Walk.field_at fields.Walk.value_of fields.Walk.fields_by fields.Walk.stop_by fields.Walk.fields_from fields.Walk.stop_from fields.Walk.fields_of
    fields.Walk.whole fields.Layout.laid fields.Layout.laid_all kinds.Kind.kinds kinds.Kind.has_kind kinds.Kind.kind_of kinds.Kind.settled
    kinds.Kind.slots_of kinds.Kind.may_lack kinds.Kind.may_have kinds.Kind.is_result kinds.Kind.grants kinds.Kind.numbers_of kinds.Judge.number_at
    kinds.Judge.fits kinds.Judge.held_in kinds.Judge.fields_with kinds.Judge.slots_with kinds.Judge.grant_in kinds.Judge.granted
    kinds.Judge.form_for kinds.Judge.at_fault kinds.Judge.fault_among kinds.Judge.filled_behind kinds.Judge.filled_in kinds.Judge.is_absent
    kinds.Judge.lacking kinds.Judge.missing_at kinds.Judge.first_of kinds.Judge.fault_of kinds.Judge.held_by kinds.Reading.slots_in
    kinds.Reading.message_of kinds.Reading.read_as kinds.Reading.read_by kinds.Reading.read_of
    packet.Meaning.value_in packet.Meaning.meaning plan.Packet.holds plan.Packet.is_nothing plan.Packet.takes plan.Packet.takes_all
    plan.Packet.is_one plan.Packet.writable plan.Packet.octets_for plan.Packet.contents_for plan.Packet.first_octet plan.Packet.header
    plan.Packet.with_header plan.Packet.packet_as plan.Packet.kind_with plan.Packet.packet_of writing.Writing.room_for
    plan.Packet.packet_for writing.Writing.write_of
    streams.Record.watches streams.Record.set_bit streams.Record.clear_bit streams.Record.count streams.Record.same_record
    streams.Record.good_receivers streams.Record.legal_in streams.Record.legal streams.Table.joined streams.Table.on_request
    streams.Table.after_clearing streams.Table.on_end streams.Table.on_t11 streams.Table.rule_for reception.Steps.seen_of reception.Steps.read_of
    reception.Steps.attempt_of reception.Steps.work_of reception.Steps.reply_of reception.Steps.stored reception.Steps.store_of reception.Schedule.noted reception.Schedule.after
    reception.Schedule.if_took reception.Schedule.taken_at reception.Schedule.run reception.Schedule.taken
    lines.Lines.before lines.Lines.lines_of hex.Line.line_right hex.Line.packet_in shown.Line.names_of shown.Line.under
    shown.Line.ten_of shown.Line.value_text shown.Line.labelled shown.Line.number_line shown.Line.text_of shown.Line.line_as shown.Line.line_of shown.Line.sheet_line
    look.Look.look_by look.Look.look_of
    incoming.Event.on_stream incoming.Event.request_by incoming.Event.heard incoming.Event.event_from incoming.Event.event_of
    outgoing.Sending.values_out outgoing.Sending.message_out outgoing.Sending.parcel_of outgoing.Sending.sending_of
bench-holds =
    -- P1 to P5: read, written, and sent or heard
    ((refl, refl), refl)
    and ((refl, refl), refl)
    and ((refl, refl), refl)
    and ((refl, refl), refl)
    and ((refl, refl), refl)
    -- P6, P7, P8 twice, P9 to P12: worked out, and stored
    and (refl, refl)
    and (refl, refl)
    and (refl, refl)
    and (refl, refl)
    and (refl, refl)
    and (refl, refl)
    and (refl, refl)
    and (refl, refl)
    -- P13: each attempt that is stored was worked out; each step comes out so; the record at the end; the events that took
    and (
      (tt, (tt, (tt, (tt, ((idle, refl), ((idle, refl), (tt, (tt, ((ending, refl), tt))))))))),
      (refl, ((refl, refl), (refl, ((refl, refl), (refl, (refl, (refl, ((refl, refl), (refl, tt))))))))),
      refl,
      refl,
    )
    -- what is printed
    and refl
    and tt
