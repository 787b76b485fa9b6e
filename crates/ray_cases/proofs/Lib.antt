mod JoinedNodes
mod PlacesRise
mod UnionMade
