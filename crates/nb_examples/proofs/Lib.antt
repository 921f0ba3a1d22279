mod PlainProgram
