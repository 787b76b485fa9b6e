mod Pieces
mod FilesSet
mod FileNames
