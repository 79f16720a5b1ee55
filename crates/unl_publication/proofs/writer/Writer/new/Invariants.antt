use Rattle.unl_publication.proofs.writer.Writer.new.Given as goal

abbrev pub ghosts-open_table : goal.ghosts-open_table
ghosts-open_table g a = record { table = a.sides.desk.place.table_id.views_name }
