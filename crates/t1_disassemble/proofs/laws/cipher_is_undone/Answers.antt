use Rattle.t1_disassemble.proofs.Deciphering.{deciphered_cipher, cipher_deciphered}
use Rattle.t1_disassemble.proofs.laws.cipher_is_undone.Goals as goal

pub returns-clause-plain : goal.returns-clause-plain
returns-clause-plain c = deciphered_cipher

pub returns-clause-encrypted : goal.returns-clause-encrypted
returns-clause-encrypted c = cipher_deciphered
