use Rattle.qz_top.proofs.FileLemmas.{file_made, file_unread}
use Rattle.qz_top.proofs.files.open_file.Goals as goal

pub returns-in-Ok-clause-made : goal.returns-in-Ok-clause-made
returns-in-Ok-clause-made g c = λ name opened is joins same.
    file_made c.args.limit name c.in-Ok.bytes opened _ is joins same c.in-Ok.ensures.read

pub returns-in-Err-clause-made : goal.returns-in-Err-clause-made
returns-in-Err-clause-made g c = λ name opened is joins same.
    rw c.status_of_unread_file.ensures (file_unread c.args.limit name c.in-Err.unread opened _ is joins same c.in-Err.ensures.read)
