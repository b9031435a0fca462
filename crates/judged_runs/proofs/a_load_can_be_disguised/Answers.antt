use Rattle.std.proofs.Common.{refl}
use Rattle.ber_code.specs.Lengths.{length_text}
use Rattle.ber_code.specs.Integers.{integer_octets, integer_text}
use Rattle.ber_code.specs.Names.{arc_text, name_text}
use Rattle.ber_code.specs.Reading.{length_at, content_at, tagged_at, integer_at, arc_from, arc_at, all_at, arcs_of, name_at}
use Rattle.snmp_msg.specs.Shortest.{value_text, binding_text, ids_text, pdu_content, message_content, shortest}
use Rattle.snmp_msg.specs.Reading.{octets_at, null_at, value_at, binding_at, kind_of, fields_at, pdu_at, content_of, framed_at, message_of}
use Rattle.oid_map.specs.Reading.{asc_name, own_name}
use Rattle.sig_tables.specs.Standard.{std8, standard}
use Rattle.stage_txn.specs.Answers.{first_broken}
use Rattle.run_definition.specs.Smallest.{smallest}
use Rattle.judged_runs.specs.Rows.{disguised}
use Rattle.judged_runs.proofs.Disguised.{disguised-runs}
use Rattle.judged_runs.proofs.a_load_can_be_disguised.Goals as goal

pub returns-clause-runs : goal.returns-clause-runs
returns-clause-runs c = disguised-runs c.standard_consistent.ensures.std8

pub returns-clause-found : goal.returns-clause-found
unfolding std8 standard smallest first_broken disguised length_text integer_octets integer_text arc_text name_text value_text binding_text ids_text pdu_content message_content shortest length_at content_at tagged_at integer_at arc_from arc_at all_at arcs_of name_at octets_at null_at value_at binding_at kind_of fields_at pdu_at content_of framed_at message_of asc_name own_name
returns-clause-found c = refl
