-- Every row of the table holds, by computation: each definition is opened, and both sides come out the same.
use mathlib.Core.Path.{refl}
use Rattle.card.specs.Bytes.{word, every, none, how_many, first_from, same}
use Rattle.card.specs.Layout.{index, code_entry, code, directory_entry, directory, file_entry, file, sizes, start, head, contents}
use Rattle.card.specs.Shelf.{all, code_rules, below, within, twins, directory_rules, twin_files, records_rule, top_rule, file_rules, codes_sound, directories_sound, files_sound, bytes_sound, is_image}
use Rattle.card.specs.Sessions.{pointed, stands, padded, fits}
use Rattle.card.specs.Access.{rights, shared}
use Rattle.card.specs.Answers.{unless, first}
use Rattle.card.specs.Select.{child, children, member, members, directory_type, directory_response, file_response, leads, named, find_directory, find_file, select, tell_status, get_response}
use Rattle.card.specs.Binary.{binary, read_binary, update_binary}
use Rattle.card.specs.Records.{chosen, of_record, read_record, update_record}
use Rattle.card.specs.Seek.{sought, seek_record}
use Rattle.card.specs.Increase.{increase_by}
use Rattle.card.specs.Marks.{invalidate, rehabilitate}
use Rattle.card.specs.Forms.{instruction_of, formed, sent}
use Rattle.card.specs.Codes.{tested, verify, change, disable, enable, unblock}
use Rattle.card.specs.Play.{act, perform_as, perform, play, run}
use Rattle.fields.specs.Halves.{halves, joined}
use Rattle.fields.specs.Text.{lead, filled}
use Rattle.codings.specs.Answers.{judge}
use Rattle.codings.specs.Network.{network, entry_in, decode, writable, bytes, encode}
use Rattle.bench.specs.Table.{EveryRowHolds}

pub every_row_holds : EveryRowHolds
unfolding halves joined lead filled judge Rattle.codings.specs.Network.named network entry_in decode writable bytes encode run play perform perform_as act instruction_of formed sent head contents start tested verify change disable enable unblock binary read_binary update_binary chosen of_record read_record update_record sought seek_record increase_by invalidate rehabilitate select tell_status get_response child children member members directory_type directory_response file_response leads named find_directory find_file unless first rights shared fits pointed stands padded how_many first_from same is_image codes_sound directories_sound files_sound bytes_sound all code_rules below within twins directory_rules twin_files records_rule top_rule file_rules every none word index code_entry code directory_entry directory file_entry file sizes
every_row_holds =
    ((refl, refl), ((refl, refl), ((refl, refl), (refl, ((refl, refl), ((refl, refl), (refl, ((λ x y z. refl, refl), tt))))))))
